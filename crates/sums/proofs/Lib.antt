-- Lemmas that belong to no one function.
pub mod Closing
pub mod Bringing
pub mod Sums
