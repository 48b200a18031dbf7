-- What the crate's contracts cite.
pub mod Generator
pub mod Shown
