-- What one read adds to what was read before; that outcomes are determined.
pub mod Outcomes
mod Turn
