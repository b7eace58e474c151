-- The theorems about the records of a cutting.
pub mod ChunkRead
pub mod RecordsCounted
