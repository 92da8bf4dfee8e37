-- The road's definitions: ceilings and the judgement.
pub mod Ceilings
pub mod Judgement
