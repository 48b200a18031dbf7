-- The theorem, and what it stands on.
pub mod Lines
pub mod Printed
pub mod Page
