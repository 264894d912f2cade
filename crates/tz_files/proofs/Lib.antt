pub mod Reading
pub mod FaultLines
pub mod Settling
pub mod Sure
pub mod Stages
pub mod Loads
pub mod Regions
