pub mod Chain
pub mod History
pub mod Exact
