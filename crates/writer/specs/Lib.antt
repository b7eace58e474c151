-- Document 01, "Records": what the writer answers and what it leaves in the buffer; the records of a stream written in order; how the code
-- decides, and the parts as it writes them.
pub mod Buffer
pub mod Writing
pub mod InOrder
pub mod Same
pub mod Row
pub mod Decided
pub mod Laid
