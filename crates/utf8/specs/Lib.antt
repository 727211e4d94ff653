pub mod Utf8
pub mod Words
pub mod Inner
pub mod Claims
