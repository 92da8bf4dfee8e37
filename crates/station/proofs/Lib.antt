-- Which densities move at which speed, which product is exact, what a lone speed gives, and the station's answers.
pub mod Tests
pub mod Speeds
pub mod Products
pub mod LoneSpeed
pub mod StationAnswers
