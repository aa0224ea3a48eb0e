-- Lemmas that belong to no one function.
pub mod Masks
pub mod Pools
pub mod Openings
pub mod Picks
pub mod LettersLeft
