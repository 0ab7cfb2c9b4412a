pub mod Clusters
pub mod OrderGraph
pub mod Counts
pub mod Gap
pub mod Levels
pub mod LevelGraph
pub mod Decisions
pub mod ReadLists
