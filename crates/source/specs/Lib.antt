-- What the crate's contracts cite.
pub mod Packets
pub mod Sizes
