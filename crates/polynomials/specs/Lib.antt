-- What the contracts cite.
pub mod Keys
pub mod Summands
pub mod Memory
pub mod Passes
pub mod Sorting
pub mod Expansion
