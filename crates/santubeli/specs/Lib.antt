-- What a C caller is given back.
pub mod Entries
