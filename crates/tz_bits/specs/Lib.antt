pub mod Words
pub mod Sums
pub mod Shifts
pub mod Constants
pub mod Values
