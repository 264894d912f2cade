pub mod Shelves
pub mod TablePorts
pub mod Tables
