-- What the crate's contracts cite.
pub mod Encoder
pub mod Loops
