-- The rounds, as the code goes through them.
pub mod Steps
pub mod Handed
pub mod Rounds
pub mod Outcomes
