pub mod Positions
pub mod Order
pub mod Rule
pub mod Place
pub mod Examples
pub mod Text
pub mod Total
