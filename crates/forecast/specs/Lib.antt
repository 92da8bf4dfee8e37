-- The definitions of Level 1: forecast, forecasts in a chain, settling run, and all calls in a chain.
pub mod Answers
pub mod Forecast
pub mod Input
pub mod Chain
pub mod Settle
pub mod ForEver
pub mod Room
