-- What a scenario's text means: the values of a key, the judgement of a text, and what there is to a code.
pub mod Values
pub mod Judging
pub mod Codes
