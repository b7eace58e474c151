-- The theorems about blocks.
pub mod Cutting
pub mod Unfold
pub mod Unphased
pub mod Derived
pub mod WalkIsGrammar
pub mod Reach
pub mod Refused
pub mod Counting
pub mod Classes
