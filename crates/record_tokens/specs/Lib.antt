-- Document 01, "Records": the tokens that a record stands for.
pub mod Tokens
