pub mod Step
pub mod Filing
pub mod Door
pub mod Inner
