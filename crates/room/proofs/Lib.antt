-- Laws of this crate, and the proofs of its functions.
pub mod Laws
pub mod Outcomes
