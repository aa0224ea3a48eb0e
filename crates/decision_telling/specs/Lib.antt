-- What the contracts cite.
pub mod Comparisons
