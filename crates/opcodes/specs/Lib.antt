-- Document 01's table of opcodes as the code looks it up.
pub mod Rows
