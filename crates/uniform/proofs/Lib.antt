-- What the proofs of the functions share, and the laws of uniform rows.
pub mod KindRules
pub mod Tables
pub mod Uniform
