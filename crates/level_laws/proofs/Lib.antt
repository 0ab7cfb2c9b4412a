mod Keeping
pub mod Refuted
pub mod Expanded
pub mod InCalls
pub mod Decided
pub mod Weaker
mod Moved
pub mod Lasting
pub mod Beginnings
pub mod CausalLemmas
