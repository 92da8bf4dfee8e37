-- The definitions of the modes' rows: the table, whole rows on a road, and what the row prediction promises.
pub mod Rows
pub mod SevenModes
pub mod Coefficients
pub mod Judging
pub mod Answers
pub mod Prediction
