pub mod Placing
pub mod Told
pub mod Findings
pub mod OneMore
pub mod Decided
pub mod Answering
