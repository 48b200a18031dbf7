-- Laws of reading; an image is read exactly when every block passes: Accepts; the block that is named is the first bad one: First.
pub mod Returns
pub mod Right
pub mod Accepts
pub mod First
pub mod Outcomes
