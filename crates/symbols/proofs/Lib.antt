-- Lemmas that belong to no one function.
pub mod Decimals
pub mod Pieces
pub mod Progress
