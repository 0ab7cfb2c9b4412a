pub mod CasHistoryLemmas
pub mod Pulling
pub mod Passing
mod Written
mod WholeRead
mod Growing
mod Turning
mod Refusing
