pub mod Behind
pub mod Cuts
pub mod Decimal
pub mod Feeding
pub mod Longest
pub mod Showing
pub mod Shown
pub mod Widths
