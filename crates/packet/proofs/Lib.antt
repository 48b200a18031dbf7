-- The laws that the functions' proofs and callers cite.
pub mod Packet
pub mod KeyBytes
pub mod Edges
pub mod Outcomes
pub mod Unread
