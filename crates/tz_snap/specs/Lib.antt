pub mod FileWords
pub mod StateFile
pub mod Refusals
pub mod Passing
