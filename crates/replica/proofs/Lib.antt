pub mod Accepted
pub mod Arrival
pub mod Compared
pub mod Numbers
pub mod Received
pub mod RowRead
pub mod Started
pub mod Tests
