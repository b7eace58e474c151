-- What an instruction's first token says, by the shape of its opcode.
pub mod ByShape
