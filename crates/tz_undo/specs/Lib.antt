pub mod History
pub mod Ring
