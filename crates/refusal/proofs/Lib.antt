-- The rule of the refusal table, tables in two parts, and demand 1 of any call from its checks.
pub mod Table
pub mod Parts
pub mod Calls
pub mod Results
