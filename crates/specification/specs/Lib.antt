-- Document 01 as definitions, one module a heading, and document 02 as it lands, one module a request, in the order in which they build on each other.
-- Lists and Results are the words that the others are written in.
pub mod Results
pub mod Lists
pub mod Letters
pub mod Values
pub mod Terms
pub mod Records
pub mod Expressions
pub mod Reduction
pub mod Insertion
pub mod Evaluation
pub mod Rules
pub mod Logs
pub mod Decision
pub mod OpenLogs
pub mod Shortening
pub mod Auditing
pub mod Printing
pub mod Words
pub mod Text
pub mod Lines
pub mod LogTexts
pub mod AssignmentTexts
pub mod Commands
pub mod Promises
pub mod Returns
