pub mod JsonFields
pub mod Check
pub mod Search
pub mod Level
