-- Records: bytes at a position, the fields of a term record, and that terms, forms and logs have one record each, of so many bytes at most;
-- and what insertion takes.
pub mod Positions
pub mod Numbers
pub mod Fields
pub mod Bits
pub mod Factors
pub mod Terms
pub mod Forms
pub mod Taken
pub mod Insertion
