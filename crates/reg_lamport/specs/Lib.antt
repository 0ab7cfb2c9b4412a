pub mod Levels
pub mod Writers
pub mod Gathering
pub mod Reads
pub mod Counts
