-- What the theorems over records cite.
pub mod Calls
pub mod Exchanges
pub mod History
