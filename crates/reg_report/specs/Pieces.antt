pub mod Settings
pub mod Judged
pub mod Looks
pub mod BadReads
pub mod Plan
pub mod Work
pub mod Slots
pub mod Workers
