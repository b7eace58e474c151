-- The tokens of a byte range.
pub mod Bytes
