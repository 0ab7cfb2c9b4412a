pub mod Options
pub mod Rows
pub mod Tables
pub mod Pairs
pub mod EventLists
