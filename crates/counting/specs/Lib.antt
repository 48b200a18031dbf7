-- What the crate's contracts cite.
pub mod Book
pub mod Count
