pub mod Copies
pub mod Pure
pub mod Returns
pub mod Answers
pub mod Outcomes
