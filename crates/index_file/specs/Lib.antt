pub mod Index
pub mod Items
pub mod Room
pub mod Inner
pub mod Claims
