-- What the C calls promise.
pub mod Parts
pub mod Level1
pub mod Level2
pub mod Stations
pub mod Rankings
