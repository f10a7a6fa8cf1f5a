pub mod Lines
pub mod Sound
pub mod Find
