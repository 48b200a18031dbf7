-- Laws of the list of found flows.
pub mod Laws
pub mod Outcomes
