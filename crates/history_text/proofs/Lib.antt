pub mod Ascending
pub mod Cut
pub mod Numbered
pub mod Reading
mod Rows
mod Plain
mod Lexed
mod Joined
mod Added
