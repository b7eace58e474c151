-- The door: what it passes.
pub mod Door
pub mod Quick
