-- Laws of peeling.
pub mod Answers
pub mod Loop
pub mod Outcomes
