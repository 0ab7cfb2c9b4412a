pub mod OneSlot
pub mod WordByWord
pub mod FirstSlot
