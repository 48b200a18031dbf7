-- What the crate's contracts cite.
pub mod Text
pub mod Page
