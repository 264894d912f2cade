pub mod Fields
pub mod StateWords
pub mod ReadWords
