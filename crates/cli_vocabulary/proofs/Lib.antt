-- The pieces of a text, numbers, the table of keys, and keywords.
pub mod Marks
pub mod Decimal
pub mod KeyTable
pub mod Naming
