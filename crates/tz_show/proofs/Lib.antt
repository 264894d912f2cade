pub mod Labels
pub mod Ranges
pub mod Regions
pub mod Texts
