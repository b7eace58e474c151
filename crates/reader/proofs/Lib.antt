-- What the proofs of the functions share, and the laws of the reader.
pub mod Steps
pub mod ReadingUnique
pub mod Examples
