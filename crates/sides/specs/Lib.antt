-- What the contracts cite.
pub mod Readings
