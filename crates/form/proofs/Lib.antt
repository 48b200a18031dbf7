-- Laws of the form of a block.
pub mod Form
pub mod Outcomes
