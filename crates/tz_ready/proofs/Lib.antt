pub mod Bits
pub mod Threading
pub mod Tables
pub mod Finding
pub mod Beginning
pub mod Copying
