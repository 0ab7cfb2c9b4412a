pub mod Numbers
pub mod Seats
pub mod Facts
pub mod Events
pub mod Steps
