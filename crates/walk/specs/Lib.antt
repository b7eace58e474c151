-- The open blocks as one number, and the walk's step over it.
pub mod Kinds
pub mod Steps
pub mod Stands
pub mod Shown
