-- What the theorems about blocks speak of.
pub mod Nesting
pub mod Begins
pub mod Descent
pub mod Reach
