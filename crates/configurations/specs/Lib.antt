pub mod Ops
pub mod Runs
pub mod Reached
pub mod Use
pub mod Tables
pub mod Configs
pub mod Eased
