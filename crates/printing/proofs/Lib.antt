-- Laws of printing.
pub mod Records
pub mod Settled
pub mod Image
pub mod Parts
pub mod Input
pub mod Outcomes
pub mod Empty
