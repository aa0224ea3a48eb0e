-- Lemmas that belong to no one function.
pub mod Growth
pub mod RowsPassed
pub mod Gains
