pub mod AnswerLaws
pub mod Checked
