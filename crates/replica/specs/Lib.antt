pub mod Grounds
pub mod Start
pub mod Receive
pub mod Read
pub mod Compare
