-- The shape of terms and forms: what the tests of the definitions say, and that gathering leaves a form in shape with letters of the table.
pub mod Terms
pub mod Forms
pub mod Bare
pub mod Letters
