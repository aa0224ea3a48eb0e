-- What polynomials keep, the normaliser, the grid and non-vanishing, in the order in which they build up.
pub mod Polynomials
pub mod Mass
pub mod Normaliser
pub mod Grid
pub mod Keys
pub mod Nonvanishing
