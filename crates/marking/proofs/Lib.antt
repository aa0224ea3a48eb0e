-- Lemmas that belong to no one function.
pub mod MarkedTerms
pub mod MarkSizes
pub mod RowMarks
