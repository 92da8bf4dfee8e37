-- What a request's definitions are.
pub mod Actions
pub mod Status
