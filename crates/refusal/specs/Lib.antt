-- What a refusal table comes to, the form of the table, and what a call answers.
pub mod Outcome
pub mod Table
pub mod Answer
