-- What the crate's contracts cite, and those of the calls over it.
pub mod Memory
pub mod Test
pub mod Seen
