-- What the tables of opcodes say of an opcode in a version, as one number.
pub mod Classes
pub mod Rules
pub mod Shape
