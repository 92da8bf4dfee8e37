-- What an accepted road is, and numbers in their ranges.
pub mod Product
pub mod Ranges
pub mod Acceptance
