-- What the proofs of the function share, and the law of exact rows.
pub mod Exactly
pub mod KindNumbers
