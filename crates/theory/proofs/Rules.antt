-- The five rules and the steps that they allow.
pub mod Table
pub mod Steps
