-- Tokens moved in a buffer.
pub mod Moving
pub mod Answers
