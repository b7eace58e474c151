-- The offending bits of a token, as the code finds them.
pub mod BySets
