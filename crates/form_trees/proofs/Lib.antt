-- Lemmas that belong to no one function.
pub mod Rowed
pub mod Whole
