pub mod Answers
pub mod Bytes
pub mod Digits
pub mod Moved
pub mod Rising
pub mod Slots
pub mod Turns
