pub mod Holders
pub mod Unit
