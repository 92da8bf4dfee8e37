-- The definitions of one face: flow and letter, the laws of a flux, the published letters, the thresholds of a cell's letters, and the pace.
pub mod Face
pub mod Codes
pub mod Law
pub mod Letters
pub mod Thresholds
pub mod Factor
pub mod Pace
