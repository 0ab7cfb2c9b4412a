pub mod Refusals
pub mod Ends
pub mod Refused
pub mod Pulls
pub mod Intake
pub mod Underway
pub mod Arena
pub mod CasHistory
