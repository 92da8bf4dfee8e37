-- The search for the next mode, the ranking's order, and its answers.
pub mod Widths
pub mod Ceiling
pub mod Search
pub mod Crossing
pub mod Order
pub mod Insertion
pub mod RankLoop
pub mod NearestJudging
pub mod NearestAnswers
