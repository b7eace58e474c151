-- What the proofs of the functions share, and the laws that callers use.
pub mod ByShape
