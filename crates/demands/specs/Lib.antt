-- What the theorems of this crate say.
pub mod Calls
pub mod Demands
pub mod Ours
