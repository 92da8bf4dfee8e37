-- The theorems of whole numbers in floats: rounding, products, sums, order, and a row of them; which floats are numbers; and what lies between whole numbers.
pub mod Signs
pub mod Terms
pub mod Value
pub mod Round
pub mod Zero
pub mod Product
pub mod Sum
pub mod Order
pub mod Within
pub mod Given
pub mod Slower
pub mod Between
pub mod Row
pub mod Known
