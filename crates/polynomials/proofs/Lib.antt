-- What the proofs of the functions lean on.
pub mod Keys
pub mod Summands
pub mod Bytes
pub mod Digits
pub mod Turns
pub mod Orders
pub mod Pieces
pub mod Layers
pub mod Expansions
