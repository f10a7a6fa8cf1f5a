pub mod Held
pub mod Effect
pub mod Steps
