pub mod Blocks
pub mod OpenBytes
pub mod Undoing
pub mod LookUps
