-- Lemmas that belong to no one function.
pub mod Marks
pub mod Results
pub mod Leaves
pub mod Levels
pub mod Whole
