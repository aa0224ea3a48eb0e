-- What the contracts cite.
pub mod Derived
pub mod Answers
