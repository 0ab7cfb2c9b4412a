pub mod Extents
pub mod Conflicts
pub mod Gaps
