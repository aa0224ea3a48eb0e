-- What the contracts cite.
pub mod Marks
