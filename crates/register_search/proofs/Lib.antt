pub mod DistinctValueLemmas
pub mod LegalOrder
pub mod Explained
pub mod Numbers
pub mod ByNumbers
pub mod InOrder
pub mod Replies
pub mod Linked
pub mod Known
pub mod Beginnings
pub mod Checking
pub mod Timed
pub mod Needed
mod Ascending
