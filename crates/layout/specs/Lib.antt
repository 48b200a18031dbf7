-- What the crate's contracts cite.
pub mod Sizes
pub mod Numbers
