pub mod Lists
pub mod ValueTimes
pub mod Step
pub mod Built
pub mod Numbered
