-- The definitions of the scheme: one step and runs in general, rounded and exact, sums, words, settling, and what the code's calls promise.
pub mod Advance
pub mod Sums
pub mod Runs
pub mod Partners
pub mod Rounded
pub mod ByFaces
pub mod Exact
pub mod Word
pub mod Settling
pub mod Calls
