-- Lemmas that belong to no one function.
pub mod Taking
pub mod Alone
