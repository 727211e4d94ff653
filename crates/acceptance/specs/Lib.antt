pub mod Bench
pub mod Examples
pub mod Reports
pub mod Texts
