-- The theorems of words: what legality says letter by letter, the search for an offence, and check 12.
pub mod Legal
pub mod OffenceLoop
pub mod WordCheck
