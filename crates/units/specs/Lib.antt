pub mod Answers
pub mod Checked
pub mod Claims
