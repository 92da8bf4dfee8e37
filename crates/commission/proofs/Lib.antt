-- The proofs of the commission's sentences, of the starred cases, of document 02's values, of the witnesses and of the refusals.
pub mod Told
pub mod ForecastCall
pub mod SettleCall
pub mod ReadCall
pub mod FitCall
pub mod PredictCall
pub mod CandidateCall
pub mod CountCall
pub mod StationCall
pub mod NearestCall
pub mod Faces
pub mod Commission
pub mod Starred
pub mod Requests
pub mod Witnesses
pub mod Refusals
