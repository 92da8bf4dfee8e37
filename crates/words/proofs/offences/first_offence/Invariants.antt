-- The loop of `words::first_offence` keeps `OffenceSought`.
use Rattle.words.proofs.OffenceLoop.{OffenceSought}
use Rattle.words.proofs.offences.first_offence.Given as goal

abbrev pub invariant-loop-face : goal.invariant-loop-face
invariant-loop-face l = OffenceSought l.word l.before l.face
