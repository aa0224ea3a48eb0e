-- Lemmas that belong to no one function.
pub mod Tests
pub mod Texts
