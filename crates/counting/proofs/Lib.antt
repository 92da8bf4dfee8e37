-- The theorems of the word count: the list of the legal words, the loop of the code, and the call's answers.
pub mod LegalCount
pub mod WordList
pub mod Turning
pub mod CountAnswers
