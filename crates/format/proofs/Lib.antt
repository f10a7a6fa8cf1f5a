pub mod Checked
pub mod Decided
pub mod Entries
pub mod Parts
pub mod Places
pub mod Sections
pub mod Sizes
