pub mod Own
pub mod Insert
pub mod Delete
