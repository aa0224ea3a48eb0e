-- Formulas and logs as text: a printed form, read again, is the form, and so it is with a log.
pub mod LogLines
pub mod LogRoundTrip
pub mod Letters
pub mod Unpacked
pub mod Derivations
