pub mod Told
pub mod Reads
pub mod Starts
pub mod Lines
pub mod Allowed
pub mod Faults
pub mod LineTold
