pub mod Holding
pub mod Secured
