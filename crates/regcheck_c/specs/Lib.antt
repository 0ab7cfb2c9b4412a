pub mod Called
pub mod Checking
pub mod Searching
pub mod Leveling
