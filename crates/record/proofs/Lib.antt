pub mod Counts
pub mod Decided
pub mod Parts
pub mod RecordBack
