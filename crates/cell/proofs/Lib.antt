-- Laws of a cell's fields.
pub mod Steps
pub mod Outcomes
