pub mod Request
pub mod Reading
pub mod Inner
pub mod Claims
