-- Shortening: the candidates by indices for a step to fewer terms, and that they are enough.
pub mod Relabelled
pub mod Symmetries
pub mod Saved
pub mod Completeness
