-- The definitions of checks 5 to 11 and 20 of the refusal table, and what the places of 9 to 11 mean.
pub mod Lists
pub mod Values
pub mod Checks
pub mod Places
pub mod State
pub mod Judged
