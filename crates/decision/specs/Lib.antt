-- What the contracts cite.
pub mod Answers
pub mod Settling
pub mod Values
