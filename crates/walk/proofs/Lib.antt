pub mod OpenBlocks
pub mod OnStream
pub mod Comes
pub mod Telling
pub mod Stretching
pub mod OneToOne
