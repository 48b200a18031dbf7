-- Laws of settling.
pub mod Laws
pub mod Outcomes
