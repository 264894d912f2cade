pub mod Seen
pub mod Trace
pub mod Integrity
pub mod Ways
pub mod Writing
pub mod Mover
