-- Laws of the places, and of keys handed over one after the other.
pub mod Near
pub mod Hands
pub mod Taking
pub mod Kept
pub mod Outcomes
