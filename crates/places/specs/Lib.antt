-- The places of operands by number, as the code holds them.
pub mod Places
