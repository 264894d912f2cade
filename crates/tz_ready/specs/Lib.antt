pub mod Copies
pub mod Levels
pub mod Links
pub mod Threads
