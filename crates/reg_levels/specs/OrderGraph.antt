pub mod Graph
pub mod Incoming
pub mod GraphWalk
pub mod Shorter
