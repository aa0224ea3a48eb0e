-- What the contracts cite.
pub mod Products
