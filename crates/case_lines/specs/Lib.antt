-- What the contracts cite.
pub mod Filling
