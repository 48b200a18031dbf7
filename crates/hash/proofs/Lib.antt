-- Laws of the hash and of places.
pub mod Chain
pub mod Apart
pub mod Outcomes
