-- What the proofs of the functions share, and the laws of records.
pub mod PlaceKinds
pub mod Unused
pub mod Filled
pub mod Passed
pub mod Declared
pub mod Rows
pub mod Readable
pub mod OwnRecord
pub mod RowRead
