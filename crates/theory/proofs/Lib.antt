-- Theorems that a wrong edit of theory or its definitions has to refuse, and those that rest on them.
pub mod Values
pub mod Reduction
pub mod Rules
pub mod Records
pub mod Replay
pub mod OpenLogs
pub mod Shortening
pub mod Lines
pub mod Text
