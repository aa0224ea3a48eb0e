-- What the proofs of the functions lean on.
pub mod Contents
pub mod ExpandedValues
pub mod Gathered
pub mod Settling
pub mod Deciding
pub mod Told
