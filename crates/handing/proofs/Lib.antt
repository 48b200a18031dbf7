-- Laws of a hand-over, and the proofs of its functions.
pub mod Answers
pub mod Laws
pub mod Outcomes
