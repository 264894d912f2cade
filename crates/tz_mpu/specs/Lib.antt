pub mod Units
pub mod Holders
