pub mod CausalFields
pub mod Counts
pub mod Fields
pub mod Joined
