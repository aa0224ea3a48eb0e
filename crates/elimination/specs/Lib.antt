-- What the contracts cite.
pub mod Differences
pub mod Elimination
