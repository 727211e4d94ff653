pub mod Parts
pub mod Finder
pub mod Keys
pub mod Values
pub mod Inner
pub mod Claims
