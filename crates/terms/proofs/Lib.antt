-- Lemmas that belong to no one function.
pub mod Arrays
pub mod Numbers
pub mod Letters
pub mod Orders
pub mod Shift
pub mod Places
pub mod InShape
pub mod Forms
pub mod Outcomes
pub mod Appending
