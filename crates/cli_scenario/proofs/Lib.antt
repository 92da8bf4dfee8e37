-- How many lines a text may have, the judgement, lists stored in a row, and keys against their codes.
pub mod Counting
pub mod Judged
pub mod Storing
pub mod ByCode
