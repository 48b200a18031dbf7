-- What the crate's contracts cite.
pub mod Rounds
pub mod Meets
pub mod Joined
