-- Lemmas that belong to no one function.
pub mod Largest
pub mod Fitting
