-- Laws of the report.
pub mod Laws
pub mod Outcomes
