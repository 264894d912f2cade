pub mod Placement
pub mod PlainImage
pub mod ElfImage
pub mod Images
pub mod Refusals
pub mod Taken
pub mod Steps
