-- The theorems that the approver reads: Demands (2 and 3), Refusals (1), Images, Reported; and what they stand on.
pub mod Lists
pub mod Steps
pub mod Opened
pub mod Reported
pub mod Received
pub mod Standing
pub mod Demands
pub mod Ours
pub mod Images
pub mod Refusals
