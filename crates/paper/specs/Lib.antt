-- Document 01, with the requests of document 02 that have landed, as definitions: a file for each section, in their order, one for the table
-- of Q-4, one for the faults of Q-3, and one of notation.
pub mod Notation
pub mod Versions
pub mod Judgements
pub mod Numbers
pub mod OpcodeTable
pub mod FirstVersions
pub mod Places
pub mod InstructionToken
pub mod Faults
pub mod OperandTokens
pub mod Dcl
pub mod Instruction
pub mod Blocks
pub mod Walk
pub mod Stream
