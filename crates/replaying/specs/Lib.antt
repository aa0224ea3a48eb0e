-- What the contracts cite.
pub mod Replaying
