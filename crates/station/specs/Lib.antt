-- The definitions of station readings, and which densities move at which speed.
pub mod Answers
pub mod Station
pub mod Speeds
