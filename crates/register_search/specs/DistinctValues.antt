pub mod SomeOperations
pub mod Hopeless
pub mod WrittenOnce
