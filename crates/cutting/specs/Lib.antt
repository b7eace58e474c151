-- The cuttings of a stream; cutting by a rule, by stated sizes alone, by operands alone.
pub mod Cuttings
pub mod CutBy
pub mod BySize
pub mod ByOperands
