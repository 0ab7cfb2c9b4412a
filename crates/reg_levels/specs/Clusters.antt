pub mod Places
pub mod Clean
pub mod Table
pub mod Steps
