-- Reduction: what the operators make of forms, and of a whole expression: its value, a form in shape, letters of the table; and the same of a form put in for
-- a letter of another, step by step too.
pub mod Pairs
pub mod Letters
pub mod Standing
