pub mod Kinds
pub mod Patches
pub mod WellFormed
pub mod Steps
pub mod Answers
