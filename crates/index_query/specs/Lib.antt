pub mod Walk
pub mod Query
pub mod Inner
pub mod Claims
