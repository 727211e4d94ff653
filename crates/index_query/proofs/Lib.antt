pub mod Walks
pub mod Judged
pub mod WalkLoop
pub mod QueryDoor
