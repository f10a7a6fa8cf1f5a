pub mod Called
pub mod Calls
pub mod Sites
pub mod Refused
