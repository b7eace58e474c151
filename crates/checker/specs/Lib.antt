-- What the functions of the descent give back, and what an accepted stream is.
pub mod Ends
pub mod Accepted
