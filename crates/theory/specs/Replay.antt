-- The replay: what it accepts, and what the ends of an accepted log have in common.
pub mod Limits
