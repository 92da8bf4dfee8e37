-- `candidate::CandidateRow::of` meets its contract: four whole numbers, each as a float.
use Rattle.std.proofs.Common.{ap}
use lib.Ieee.{binary64, of_int}
use Rattle.modes.specs.Codes.{code_of}
use Rattle.candidate.specs.Candidate.{row_for}
use Rattle.candidate.proofs.Exact.{RowReads, row_reads}
use Rattle.candidate.proofs.candidates.CandidateRow.of.Goals.{After-of-row}
use Rattle.candidate.proofs.candidates.CandidateRow.of.Goals as goal

reads : (c : After-of-row) → RowReads c.args.road.road (code_of c.args.mode) c.of-row.result
reads c = row_reads c.args.road.road c.args.road.accepted c.args.mode c.of-row.result c.of-row.ensures

pub int_to_float-result : goal.int_to_float-result
int_to_float-result c = (reads (goal.at.int_to_float-result c).After-of-row).left.exact

pub int_to_float-result-2 : goal.int_to_float-result-2
int_to_float-result-2 c = (reads (goal.at.int_to_float-result-2 c).After-of-row).own.exact

pub int_to_float-result-3 : goal.int_to_float-result-3
int_to_float-result-3 c = (reads (goal.at.int_to_float-result-3 c).After-of-row).right.exact

pub int_to_float-result-4 : goal.int_to_float-result-4
int_to_float-result-4 c = (reads (goal.at.int_to_float-result-4 c).After-of-row).constant.exact

pub returns : goal.returns
unfolding row_for
returns c =
    let row = reads (goal.at.returns c).After-of-row in
    λ i. record {
      left = ap (of_int binary64) row.left.same i;
      own = ap (of_int binary64) row.own.same i;
      right = ap (of_int binary64) row.right.same i;
      constant = ap (of_int binary64) row.constant.same i;
    }
