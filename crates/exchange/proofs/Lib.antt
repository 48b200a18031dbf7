-- The call of the exchange: laws, and the proofs of its functions.
pub mod Rooms
pub mod Tests
pub mod Passed
pub mod Testing
pub mod Call
pub mod Outcomes
