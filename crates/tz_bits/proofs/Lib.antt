pub mod Masks
pub mod Places
pub mod Signed
pub mod Back
