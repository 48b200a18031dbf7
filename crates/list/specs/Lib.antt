-- What the crate's contracts cite.
pub mod Records
pub mod Found
pub mod Seen
