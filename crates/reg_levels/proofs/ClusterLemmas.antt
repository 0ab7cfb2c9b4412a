pub mod Places
pub mod Pushes
pub mod Written
pub mod Origins
pub mod Widening
pub mod Numbered
pub mod Tables
