-- What the contracts cite.
pub mod Trees
