-- The laws that the code of the edit rests on.
pub mod Onward
pub mod Prefix
pub mod Tokens
pub mod Meeting
pub mod Answers
