-- The records of a cutting.
pub mod Listing
