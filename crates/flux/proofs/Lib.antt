-- The theorems of one face: its sizes, its letters, its laws, the thresholds of a cell's letters, and the division by a multiplier.
pub mod Sizes
pub mod Letters
pub mod Rounding
pub mod Laws
pub mod Thresholds
pub mod Scaling
pub mod Multiplier
pub mod Signed
