-- The rows of ps_1_1 to ps_1_3 as the code looks them up.
pub mod Rows
