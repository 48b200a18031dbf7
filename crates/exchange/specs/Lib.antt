-- What the exchange does to lists, and what it answers.
pub mod Exchange
pub mod Passed
