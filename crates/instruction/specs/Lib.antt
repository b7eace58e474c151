-- An instruction by what is shown of it.
pub mod Shown
