-- The code of the edit, by the definitions of crate edit.
pub mod Steps
pub mod Found
pub mod Answers
