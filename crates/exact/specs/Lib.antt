-- Exact rows.
pub mod Exact
