-- What the theorems of this crate cite.
pub mod View
pub mod Held
pub mod Answers
