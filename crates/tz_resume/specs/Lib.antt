pub mod Words
pub mod Resumption
pub mod Entries
pub mod Steps
pub mod Number
pub mod Run
