-- What the crate's contracts cite.
pub mod Table
pub mod Seen
