-- What the crate's contracts and theorems cite.
pub mod Read
pub mod First
pub mod Right
