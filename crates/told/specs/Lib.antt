-- What is told of an instruction and of its operands, as the code hands it on.
pub mod Numbered
