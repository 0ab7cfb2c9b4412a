pub mod Whole
pub mod Knowing
pub mod Refuted
pub mod FromSequential
pub mod Registers
