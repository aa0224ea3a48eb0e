-- What the contracts cite.
pub mod Keeping
