-- What the proofs of the functions lean on.
pub mod Filling
pub mod Sizes
