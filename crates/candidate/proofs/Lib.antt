-- The theorems of the candidate prediction: the test of an estimate, which numbers are exact, and the call's answers.
pub mod Tests
pub mod Exact
pub mod CandidateAnswers
