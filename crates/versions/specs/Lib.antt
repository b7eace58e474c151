-- Sets of register types and of modifiers, and what a version has, as the code holds them.
pub mod Sets
pub mod Rows
pub mod Forms
