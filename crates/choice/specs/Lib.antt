-- Choices by a test, and tests joined.
pub mod Choice
