pub mod SessionClocks
pub mod CausalGraph
pub mod Decisions
pub mod Ways
pub mod Covering
pub mod Walks
pub mod CausalOrders
