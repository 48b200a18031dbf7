-- Laws of sealing; the theorems are in Answers and Outcomes.
pub mod Stores
pub mod Answers
pub mod Outcomes
