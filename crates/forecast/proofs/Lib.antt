-- The theorems of Level 1: which inputs are accepted, what is answered, and what a chain of calls keeps for ever.
pub mod Checked
pub mod Answers
pub mod Copied
pub mod Calling
pub mod Chain
pub mod ForEver
pub mod Room
