-- What the contracts cite.
pub mod Vectors
pub mod Answers
