pub mod Leaves
pub mod Banked
pub mod Tries
mod Bound
