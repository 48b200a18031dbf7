-- What the crate's contracts cite.
pub mod Given
pub mod Test8
