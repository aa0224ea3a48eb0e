-- Lemmas that belong to no one function.
pub mod Lengths
pub mod Texts
pub mod Named
