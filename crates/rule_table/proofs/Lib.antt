-- Lemmas that belong to no one function.
pub mod Tied
pub mod Rows
