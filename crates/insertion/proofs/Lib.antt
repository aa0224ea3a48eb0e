-- Lemmas that belong to no one function.
pub mod Inserting
pub mod KeptValue
