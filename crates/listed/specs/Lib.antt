pub mod Output
pub mod Text
pub mod Listing
pub mod Steps
