pub mod World
pub mod Scripts
pub mod Tally
pub mod Offered
pub mod Condition3
