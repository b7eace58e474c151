-- What the proofs of the functions share, and the laws that callers use.
pub mod Places
pub mod PlaceKinds
pub mod Decoding
