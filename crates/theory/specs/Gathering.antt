-- Gathering: terms put in order, sums over terms, and what is left.
pub mod Tidy
pub mod Weights
pub mod Coefficients
pub mod Gathered
pub mod Staying
