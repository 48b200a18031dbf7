-- The laws behind the crate's contracts.
pub mod Laws
pub mod Misfit
pub mod Rebuilt
pub mod Outcomes
