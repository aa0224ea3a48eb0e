-- Lemmas that belong to no one function.
pub mod Readers
pub mod Inside
