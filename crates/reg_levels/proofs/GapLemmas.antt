pub mod Passing
pub mod Listing
pub mod Deciding
pub mod Showing
