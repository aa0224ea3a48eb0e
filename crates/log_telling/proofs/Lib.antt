-- Lemmas that belong to no one function.
pub mod Pieces
pub mod Readable
