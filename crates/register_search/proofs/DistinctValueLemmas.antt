pub mod SomeOperations
pub mod Hopeless
pub mod Times
pub mod Verdicts
pub mod WrittenOnce
