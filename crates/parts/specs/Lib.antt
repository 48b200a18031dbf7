-- What the crate's contracts cite.
pub mod Sides
pub mod Places
pub mod Parts
