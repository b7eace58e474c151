-- Elements stored one after the other in a list.
pub mod Stores
