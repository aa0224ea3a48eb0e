-- What the proofs of this crate cite: Machine, Over and Bits64 are for its callers too.
pub mod Machine
pub mod Over
pub mod Bits64
mod Bits
mod Division
