-- Laws of the filter.
pub mod Held
pub mod Outcomes
