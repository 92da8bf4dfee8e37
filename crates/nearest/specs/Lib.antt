-- The definitions of the ranking: how near the next mode is, and how the code finds it.
pub mod Answers
pub mod Nearest
pub mod Ways
