pub mod DoorStays
pub mod Stable
pub mod Demand3
pub mod Answers
pub mod Built
