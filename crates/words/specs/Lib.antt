-- The definitions of words: which are legal, check 12 of the refusal table, and what its place means.
pub mod Words
pub mod Judging
pub mod Places
pub mod Offence
pub mod Judged
