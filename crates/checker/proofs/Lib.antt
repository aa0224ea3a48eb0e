-- Lemmas that belong to no one function.
pub mod CheckedLogs
pub mod LogParts
pub mod AcceptedLogs
