-- What the theorem says.
pub mod Printed
pub mod Page
