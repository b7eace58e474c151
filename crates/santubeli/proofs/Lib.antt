-- The entry that writes leaves one answer.
pub mod OneAnswer
