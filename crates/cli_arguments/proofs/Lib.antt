-- Facts on lists that proofs cite.
pub mod Prefix
