pub mod Banks
pub mod Registers
pub mod ItState
pub mod Special
pub mod Reset
pub mod FaultBits
pub mod RegisterBits
