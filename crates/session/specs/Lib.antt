-- What the crate's contracts cite.
pub mod Calls
pub mod Errors
