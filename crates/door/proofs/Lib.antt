-- What the proofs of the functions share, and the law of the door.
pub mod Taking
pub mod Asking
pub mod Passing
pub mod Quickly
