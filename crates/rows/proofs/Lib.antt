-- The theorems of the modes' rows: the table, sizes, coefficients, the loop of the code, and the call's answers.
pub mod Integers
pub mod Dot
pub mod Table
pub mod SevenModes
pub mod Rows
pub mod Sizes
pub mod Coefficients
pub mod RowLoop
pub mod PredictState
pub mod PredictAnswers
