pub mod Before
pub mod Behind
pub mod Lined
pub mod Placed
pub mod RoundTrip
pub mod Writes
