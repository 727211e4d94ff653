pub mod Filing
pub mod Moves
pub mod Fits
pub mod StepKeeps
