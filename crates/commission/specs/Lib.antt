-- The commission's demands over every public call; the starred cases of document 01, the values of document 02, a witness of each hypothesis, and an
-- input for each refusal.
pub mod Outcome
pub mod Places
pub mod ForecastCall
pub mod SettleCall
pub mod ReadCall
pub mod FitCall
pub mod PredictCall
pub mod CandidateCall
pub mod CountCall
pub mod StationCall
pub mod NearestCall
pub mod Calls
pub mod Table
pub mod Faces
pub mod Commission
pub mod Starred
pub mod Requests
pub mod Witnesses
pub mod Refusals
