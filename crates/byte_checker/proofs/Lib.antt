pub mod Tokens
pub mod Verdicts
pub mod OneAnswer
pub mod Turn
