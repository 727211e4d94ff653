pub mod Nexts
pub mod Reading
pub mod Advancing
