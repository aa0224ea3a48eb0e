-- Shortening: the candidates by indices for a step to fewer terms, and that they are enough.
pub mod Masks
pub mod Candidates
