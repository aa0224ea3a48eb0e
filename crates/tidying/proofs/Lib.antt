-- Lemmas that belong to no one function.
pub mod Exchanges
pub mod Tidying
pub mod Joins
pub mod Selecting
