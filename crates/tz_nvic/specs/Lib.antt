pub mod ActiveSlots
pub mod Choice
pub mod Known
pub mod Lists
pub mod Viewed
