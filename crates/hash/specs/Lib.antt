-- What the crate's contracts cite.
pub mod Chains
pub mod Fnv
pub mod Places
pub mod Salted
