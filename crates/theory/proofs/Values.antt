-- Values: vectors of three integers, terms as ring expressions, the identities, that tidying, inserting and gathering keep the value,
-- that only a form's letters decide it, assignments in bytes, and the first of assignments.
pub mod Identities
pub mod TripleExchange
pub mod Exchanges
pub mod Terms
