-- Definitions that the theorems cite.
pub mod View
pub mod Meaning
