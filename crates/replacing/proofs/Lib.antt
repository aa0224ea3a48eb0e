-- Lemmas that belong to no one function, and those about chains of operands.
pub mod Places
pub mod Factors
pub mod Multiplied
pub mod Turns
