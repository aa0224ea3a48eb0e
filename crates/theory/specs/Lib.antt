-- Theorems about the definitions, in the order in which they build on each other. docs/PROVED.md names each promise with its theorem.
pub mod Tests
pub mod Elements
pub mod Order
pub mod Sorting
pub mod Reordering
pub mod Signs
pub mod Units
pub mod Gathering
pub mod Shape
pub mod Values
pub mod Reduction
pub mod Records
pub mod Replay
pub mod Shortening
pub mod Text
