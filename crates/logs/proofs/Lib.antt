-- Lemmas that belong to no one function.
pub mod StepRecords
pub mod StepLetters
pub mod LogShape
pub mod WrittenLogs
pub mod AtSteps
