-- Laws of writing in hexadecimal, and of filling from the generator.
pub mod Filling
pub mod Outcomes
pub mod Written
