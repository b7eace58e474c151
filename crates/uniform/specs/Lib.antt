-- Uniform rows: the rows of operands, and the cells of the code's tables.
pub mod Uniform
pub mod Cells
