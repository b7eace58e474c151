-- What the check of a stream promises, and the laws behind it.
pub mod ItemEnds
pub mod BodyEnds
pub mod BlockEnds
pub mod Whole
pub mod Laid
pub mod OneAnswer
pub mod AcceptedIsGrammar
