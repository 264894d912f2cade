mod Puts
pub mod Listing
pub mod Words
