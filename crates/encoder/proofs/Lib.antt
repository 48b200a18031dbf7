-- Laws of the encoder.
pub mod Answers
pub mod Outcomes
