-- What the proofs of the picture share, and its laws.
pub mod Listing
pub mod Laws
