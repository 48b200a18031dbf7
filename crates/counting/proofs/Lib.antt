-- Laws of counting.
pub mod Book
pub mod Answers
pub mod Loop
pub mod Outcomes
