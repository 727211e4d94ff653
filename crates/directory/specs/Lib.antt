pub mod Directory
pub mod Inner
pub mod Claims
