-- Document 01, "The edit".
pub mod Boundaries
pub mod Edit
pub mod Refusals
