-- The theorems about the edit.
pub mod Standing
pub mod Prefix
pub mod SameBlocks
pub mod Allowed
pub mod JoinedIsTheOldVerdict
pub mod EditIsACheck
pub mod OneAnswer
pub mod JoinedByPrefix
pub mod BufferHoldsTheSplice
pub mod Vectors
