-- Document 01, "Records", and the record by the class and the shape of an instruction as the code has them.
pub mod Record
pub mod ByClass
