-- What the contracts cite.
pub mod Behind
