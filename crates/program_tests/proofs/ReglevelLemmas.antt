pub mod Spelled
pub mod Worked
