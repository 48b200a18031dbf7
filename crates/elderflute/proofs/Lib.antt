-- Laws of the answers, the proofs of the crate's functions, and that each contract determines its outcome.
pub mod Answers
pub mod Lines
pub mod Outcomes
