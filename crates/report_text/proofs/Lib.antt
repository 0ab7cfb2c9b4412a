pub mod LevelLemmas
pub mod SearchLemmas
pub mod CheckLemmas
pub mod JsonFieldLemmas
