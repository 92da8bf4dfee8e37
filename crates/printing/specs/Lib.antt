-- What printing's definitions are.
pub mod Visible
