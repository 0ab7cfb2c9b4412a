pub mod Fields
pub mod Sends
