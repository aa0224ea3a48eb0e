-- Lemmas that belong to no one function.
pub mod Returning
pub mod ReturnedLogs
pub mod ReturnedAudits
pub mod ReturnedTexts
pub mod ReturnedOpenLogs
