pub mod Causal
pub mod Words
pub mod Text
