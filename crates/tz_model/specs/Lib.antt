pub mod Words
pub mod AddressMap
pub mod Board
pub mod Image
pub mod Outside
pub mod Ports
pub mod Codes
