-- What the proofs of the functions share, and the laws of the notes.
pub mod FirstPlace
pub mod Stepping
pub mod Search
pub mod Ends
pub mod OneAnswer
pub mod Places
pub mod Examples
