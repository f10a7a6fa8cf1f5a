pub mod Records
pub mod Sites
