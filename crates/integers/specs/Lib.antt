-- What this crate says beyond the specification: the sign, exact division, and a list written over a part of another.
pub mod Arithmetic
pub mod Over
