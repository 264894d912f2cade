pub mod Gates
pub mod Entries
pub mod Stays
pub mod GatesText
pub mod Scanned
