-- What joined tests say, and tests computed over a range.
pub mod Choice
pub mod Grid
