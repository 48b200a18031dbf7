-- What the crate's contracts cite.
pub mod Numbers
pub mod Flowset
pub mod Images
pub mod Sessions
pub mod Exchanges
