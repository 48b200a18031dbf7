-- What the crate's contracts and theorems cite.
pub mod Seal
