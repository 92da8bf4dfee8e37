-- The theorems of checks 5 to 11 and 20: what each says where it does not refuse, and the places that are reported.
pub mod First
pub mod Checks
pub mod Places
pub mod State
