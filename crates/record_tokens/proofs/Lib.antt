-- The tokens of a record are those that it was read from.
pub mod Digits
pub mod Operands
pub mod WrittenBack
pub mod ReadBack
