pub mod Staleness
pub mod Listing
pub mod Marks
pub mod Measured
