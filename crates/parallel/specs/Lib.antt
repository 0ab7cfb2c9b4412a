-- What the contracts of parallel steps say.
pub mod Parts
