-- The writer: its code meets its contracts; its answers are the paper's, each record reads back as itself, and a stream's records give its tokens.
pub mod Paste
pub mod Same
pub mod Row
pub mod Fields
pub mod LaidRow
pub mod Listed
pub mod Readings
pub mod LaidRecord
pub mod Yielding
pub mod Tested
pub mod Answers
pub mod Encoding
pub mod Exactly
pub mod ReadsBack
pub mod StreamWrittenBack
pub mod OneAnswer
