-- Lemmas that belong to no one function.
pub mod Within
pub mod Marks
pub mod Told
pub mod StepLines
pub mod Lines
pub mod Shape
