pub mod Events
pub mod FullRun
pub mod Generated
pub mod Tallies
