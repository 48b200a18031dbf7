-- Laws of the test of 8.
pub mod Notes
pub mod Answers
pub mod Passed
pub mod Outcomes
