pub mod Faulted
pub mod Kept
pub mod Local
