-- What is told of a token in brief, the commonest tokens, known by one test, and the places of the tables with their types.
pub mod Brief
pub mod Good
pub mod Plain
pub mod Tabled
