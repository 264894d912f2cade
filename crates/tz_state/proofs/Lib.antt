pub mod Faults
pub mod Difference
