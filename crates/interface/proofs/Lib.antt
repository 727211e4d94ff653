pub mod SizesMade
pub mod Counts
