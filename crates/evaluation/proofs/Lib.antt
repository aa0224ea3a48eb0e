-- Lemmas that belong to no one function.
pub mod Bounds
pub mod Arithmetic
pub mod Assigned
pub mod Folds
pub mod Answering
pub mod GivenValue
