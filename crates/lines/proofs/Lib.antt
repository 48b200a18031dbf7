-- Laws of the printed lines.
pub mod Decimal
pub mod Lines
pub mod Example
pub mod Outcomes
