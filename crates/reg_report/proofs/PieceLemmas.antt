pub mod Pushed
pub mod Numbering
pub mod Fitness
pub mod Fewness
pub mod Putting
pub mod Working
pub mod Searching
pub mod Gathering
