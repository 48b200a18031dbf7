-- Laws of how an exchange ends.
pub mod Outcomes
