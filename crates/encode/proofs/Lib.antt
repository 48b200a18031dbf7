-- That the longest buffers are long enough.
pub mod Longest
