-- Laws of the tables and of shapes, for those who look one up.
pub mod Table
pub mod Computed
pub mod Shapes
pub mod DestinationFirst
pub mod Rules
