-- The demands, proved: they join what the crates below prove of definitions.
pub mod WhereRefused
pub mod NumbersAndPositions
pub mod Demand1
pub mod Sizeless
pub mod OneReading
pub mod ChunksRead
pub mod Demand2
pub mod Boundaries
pub mod Demand3
pub mod BlocksCounted
pub mod Nesting
