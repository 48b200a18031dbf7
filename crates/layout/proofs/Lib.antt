-- Laws of sizes and layouts.
pub mod Ranges
pub mod Outcomes
