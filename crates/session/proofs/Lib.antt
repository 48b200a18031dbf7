-- Laws of the calls on a session, and the proofs of its functions.
pub mod Answers
pub mod Laws
pub mod Outcomes
