-- What the contracts cite.
pub mod Parts
