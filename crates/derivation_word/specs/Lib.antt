-- What the contracts cite.
pub mod Derivations
