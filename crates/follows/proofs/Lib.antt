-- What a call over records leaves, taken apart, is what the call over numbers leaves; so the demands hold of calls over records.
pub mod Kept
pub mod Opened
pub mod Demands
pub mod Sides
pub mod Joined
pub mod Joint
pub mod History
