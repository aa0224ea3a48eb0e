-- What the contracts cite.
pub mod Written
