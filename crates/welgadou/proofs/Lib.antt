-- From the answers of the calls below to what the C calls return.
pub mod Answers
pub mod ForecastAnswers
pub mod ModeAnswers
pub mod StationAnswers
pub mod RankingAnswers
