-- Lemmas that belong to no one function.
pub mod Derivations
pub mod Shortened
pub mod Calls
pub mod Shortens
