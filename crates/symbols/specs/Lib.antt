-- What the contracts cite.
pub mod Printable
pub mod Text
