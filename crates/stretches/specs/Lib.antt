-- A stretch of plain instructions.
pub mod Stretch
