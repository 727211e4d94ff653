pub mod Chars
pub mod Texts
pub mod Plains
pub mod Words
pub mod Spelling
pub mod Examples
