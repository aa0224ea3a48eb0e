-- Lemmas that belong to no one function.
pub mod Trials
pub mod Scalars
