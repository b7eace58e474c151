pub mod Numbers
pub mod OperandAt
