-- What the contracts cite.
pub mod Sorted
