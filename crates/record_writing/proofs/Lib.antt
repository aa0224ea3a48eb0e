-- Lemmas that belong to no one function.
pub mod Writes
pub mod Bits
pub mod Factors
pub mod Terms
