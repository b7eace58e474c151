-- The theorems about one instruction and its own tokens, and about the one way to cut a stream.
pub mod EndToken
pub mod CutBy
pub mod OneCutting
pub mod AcceptedIsACutting
pub mod SizesCut
pub mod OperandsCut
pub mod BothAgree
pub mod OpcodeAlone
