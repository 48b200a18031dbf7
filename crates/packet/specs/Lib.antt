-- The definitions that the contracts cite.
pub mod Packet
pub mod Key
