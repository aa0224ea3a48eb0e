-- Lemmas that belong to no one function.
pub mod Pairs
pub mod Lines
