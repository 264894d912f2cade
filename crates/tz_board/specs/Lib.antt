pub mod Boards
pub mod BoardErrors
pub mod Tables
pub mod Text
pub mod Demo
pub mod Scripts
pub mod Script
pub mod ScriptErrors
