-- What the contracts cite.
pub mod Bringing
