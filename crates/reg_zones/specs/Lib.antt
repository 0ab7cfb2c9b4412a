pub mod Clusters
pub mod Faults
pub mod Order
pub mod Register
pub mod Sweep
pub mod Entries
pub mod Inversions
pub mod Ahead
