-- The user's demands, and BLOCK and DEPTH, as statements.
pub mod Demand1
pub mod Reading
pub mod Demand2
pub mod Demand3
pub mod Nesting
pub mod Sizeless
