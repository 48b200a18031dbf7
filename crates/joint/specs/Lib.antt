-- What the theorems of this crate say.
pub mod Exchanges
pub mod History
pub mod NoOther
