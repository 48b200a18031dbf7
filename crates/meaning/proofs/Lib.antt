-- Theorems, each stated once.
pub mod Packet
pub mod Kept
pub mod Run
pub mod Ipv4
pub mod Meaning
pub mod Session
