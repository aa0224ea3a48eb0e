-- What the proofs of the functions lean on.
pub mod Survival
pub mod Differences
pub mod Choices
