pub mod Ends
pub mod Memory
pub mod Adapters
