pub mod Closing
pub mod Undo
pub mod Loading
