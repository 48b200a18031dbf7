-- Laws of the table.
pub mod Parts
pub mod Spots
pub mod Bounds
pub mod Outcomes
