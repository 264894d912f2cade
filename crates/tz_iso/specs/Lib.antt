pub mod Parts
pub mod What
pub mod Runs
pub mod Marks
