-- Lemmas that belong to no one function.
pub mod Differences
pub mod Answers
