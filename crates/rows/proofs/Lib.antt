-- Lemmas that belong to no one function.
pub mod RowTerms
pub mod Runs
pub mod RowForms
