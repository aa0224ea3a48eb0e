-- What the contracts cite.
pub mod Places
pub mod Words
pub mod Readings
