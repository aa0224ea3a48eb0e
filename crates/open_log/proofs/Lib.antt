-- Lemmas that belong to no one function.
pub mod Additions
pub mod StateBytes
pub mod OpenCalls
pub mod Lengths
