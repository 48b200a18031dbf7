-- What the crate's contracts cite.
pub mod Record
pub mod Outcomes
