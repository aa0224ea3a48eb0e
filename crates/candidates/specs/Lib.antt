-- What the contracts cite.
pub mod Trying
