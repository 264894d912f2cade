pub mod Encoded
pub mod Search
pub mod Told
pub mod Slots
pub mod Numbers
pub mod Limits
pub mod Codes
