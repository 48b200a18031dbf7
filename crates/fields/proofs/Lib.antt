-- Laws of fields, over any width, and of runs of bytes.
pub mod Fields
pub mod Runs
pub mod Outcomes
