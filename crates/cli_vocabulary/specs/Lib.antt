-- What the words of a scenario mean: pieces of a text, numbers, keys, and values; and keys by their codes.
pub mod Pieces
pub mod Numbers
pub mod Ascii
pub mod Keys
pub mod Items
pub mod Codes
