-- `printing::doubles::truncated`: between the two bounds that it tests, a double's whole part fits 64 bits with a sign.
use Rattle.std.proofs.Common.{T, sym, subst}
use Rattle.printing.proofs.doubles.truncated.Goals as goal

pub truncating_f64_to_i64-requires-clause-lower_bound : goal.truncating_f64_to_i64-requires-clause-lower_bound
unfolding lib.Ieee.neg lib.Ieee.of_bits
truncating_f64_to_i64-requires-clause-lower_bound c = subst T (sym c.if-x.true) tt

pub truncating_f64_to_i64-requires-clause-upper_bound : goal.truncating_f64_to_i64-requires-clause-upper_bound
unfolding lib.Ieee.of_bits
truncating_f64_to_i64-requires-clause-upper_bound c = subst T (sym c.if-x-2.true) tt
