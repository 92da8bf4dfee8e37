-- The theorems of fit test and reading: the loops of the code, the calls' answers, and that every legal word is read off a state.
pub mod Seven
pub mod ModeRange
pub mod LetterLoop
pub mod ModeLoop
pub mod Counted
pub mod Misfits
pub mod Fitness
pub mod FitAnswers
pub mod ReadJudging
pub mod TalliedModes
pub mod ReadState
pub mod ReadAnswers
pub mod Occurs
pub mod ReadOff
