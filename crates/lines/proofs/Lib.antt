-- Lemmas that belong to no one function.
pub mod Ends
pub mod Bytes
