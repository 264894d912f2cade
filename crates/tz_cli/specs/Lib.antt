pub mod PairLine
pub mod Summary
pub mod Tasks
pub mod Answer
