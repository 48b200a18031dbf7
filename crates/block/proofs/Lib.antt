-- Laws of blocks that sealing and reading cite.
pub mod Lengths
pub mod Cells
pub mod Outcomes
