-- Lemmas that belong to no one function.
pub mod Values
pub mod Entries
