-- What the contracts cite.
pub mod Table
