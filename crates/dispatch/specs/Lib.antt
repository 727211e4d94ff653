pub mod Dispatch
pub mod Inner
