-- The definitions of fit test and reading: modes, the calls' checks of the refusal table, and what each call promises.
pub mod Modes
pub mod Codes
pub mod Answers
pub mod Judging
pub mod Fit
pub mod Reading
pub mod ReadOff
