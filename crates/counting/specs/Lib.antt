-- The definitions of the word count, and what it promises.
pub mod WordCount
pub mod LegalWordsCounted
pub mod Answers
pub mod Count
