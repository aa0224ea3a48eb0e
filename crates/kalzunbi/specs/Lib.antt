-- What the contracts cite.
pub mod Progress
