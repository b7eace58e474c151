-- Document 01, "Records": the reader.
pub mod Reading
