pub mod Reduction
pub mod Cubes
pub mod Scans
pub mod Apart
pub mod Data
pub mod RowLimits
pub mod Numbers
pub mod WideLimits
