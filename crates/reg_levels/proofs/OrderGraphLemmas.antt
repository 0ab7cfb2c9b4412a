pub mod Places
pub mod Listing
pub mod Walking
pub mod Turning
pub mod Rounds
pub mod Trails
pub mod Paths
