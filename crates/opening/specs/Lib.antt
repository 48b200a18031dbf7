-- What the crate's contracts cite.
pub mod Open
pub mod Blocks
