pub mod Queue
pub mod Entering
pub mod Inner
