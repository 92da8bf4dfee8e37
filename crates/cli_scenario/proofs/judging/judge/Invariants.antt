-- Nothing is wrong with the lines before: the judgement goes on from what they come to.
use Rattle.std.proofs.Common.{◌≡◌, ◌≤◌, ◌+◌, length}
use Rattle.cli_vocabulary.specs.Pieces.{lines}
use Rattle.cli_scenario.specs.Judging.{judged_lines, at_start}
use Rattle.cli_scenario.proofs.judging.judge.Given as goal

abbrev pub invariant-loop-line : goal.invariant-loop-line
invariant-loop-line l =
    (l.p.line + length (lines l.line-iterator.rest.now) ≤ length l.text)
    × (judged_lines l.p (lines l.line-iterator.rest.now) ≡ judged_lines at_start (lines l.text))
