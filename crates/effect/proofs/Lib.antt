pub mod Counted
pub mod Decided
pub mod Edits
pub mod Keeps
