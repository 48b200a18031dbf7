-- The laws behind the crate's contracts.
pub mod Laws
pub mod Trip
pub mod Outcomes
