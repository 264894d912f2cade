pub mod Before
pub mod EventLines
pub mod Handing
pub mod LoadLines
