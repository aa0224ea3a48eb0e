-- What the contracts cite.
pub mod Steps
pub mod Reading
pub mod Writing
