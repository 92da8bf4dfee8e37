-- The version.
pub mod Version
