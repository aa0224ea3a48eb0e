-- What the contracts cite.
pub mod Letters
pub mod Formulas
pub mod Steps
pub mod Logs
