pub mod Sessions
pub mod Steps
pub mod WriteIndex
pub mod Rows
pub mod Clocks
