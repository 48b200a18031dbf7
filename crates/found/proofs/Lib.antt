-- Laws of finding a listed key.
pub mod Seen
pub mod Outcomes
