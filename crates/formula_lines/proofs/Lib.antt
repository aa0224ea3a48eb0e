-- Lemmas that belong to no one function.
pub mod Forms
pub mod OneLine
