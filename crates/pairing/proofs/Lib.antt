-- The laws behind the crate's contracts.
pub mod Misfit
pub mod Outcomes
