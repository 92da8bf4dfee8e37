-- The definition of a float that is a whole number.
pub mod Worth
