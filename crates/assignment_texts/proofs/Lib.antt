-- Lemmas that belong to no one function.
pub mod Components
pub mod Values
pub mod Stores
pub mod Turns
pub mod Good
