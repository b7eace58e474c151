-- A run in place of some tokens of a buffer.
pub mod Splicing
