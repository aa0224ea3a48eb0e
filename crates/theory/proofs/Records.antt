-- Records: bytes at a position, the fields of a term record, and that terms, forms and logs have one record each, of so many bytes at most;
-- and what insertion takes.
pub mod Logs
pub mod Lengths
