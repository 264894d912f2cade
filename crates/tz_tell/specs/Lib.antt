pub mod ExceptionNames
pub mod FramePointer
