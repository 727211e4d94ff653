pub mod Counts
pub mod Linked
