-- What the contracts cite.
pub mod Limits
