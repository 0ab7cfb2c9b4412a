pub mod Fields
pub mod Joined
