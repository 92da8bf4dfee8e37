-- The definitions of the candidate prediction, and what it promises.
pub mod Answers
pub mod Candidate
