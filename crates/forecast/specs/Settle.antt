-- The settling run: its checks of the refusal table, its answer and its output, and the full forecast that it equals.
use Rattle.std.specs.Prelude.{◌≡◌, Bool, false, List, [], ◌∷◌, ◌++◌, ℕ, ◌+◌, ◌≤◌, length, replicate}
use Rattle.refusal.specs.Table.{Check, judge, refused, Judged, unless_refused}
use Rattle.road.specs.Ceilings.{cells_ceiling, horizon_ceiling}
use Rattle.road.specs.Judgement.{road_checks, Accepted}
use Rattle.road.specs.declared.Road.{Road}
use Rattle.refusal.specs.Outcome.{Outcome}
use Rattle.checks.specs.Checks.{cells_check, horizon_check, output_check, caps_check, pair_checks}
use Rattle.checks.specs.Places.{Placed}
use Rattle.scheme.specs.Sums.{Below}
use Rattle.scheme.specs.Rounded.{entered, left}
use Rattle.scheme.specs.ByFaces.{RunByFaces}
use Rattle.scheme.specs.Settling.{after, settles, settle_steps, settle_cells, LeastStill}
use Rattle.scheme.specs.declared.settling.Settled.{Settled}
use Rattle.forecast.specs.declared.forecasting.Record.{Record}
use Rattle.forecast.specs.Answers.{ForecastAnswer, SettleAnswer}
use Rattle.refusal.specs.Answer.{Done, Refused}
use Rattle.forecast.specs.Chain.{Call, Site, answer_to, output_of}

-- checks 5, 6, 8 and 20, over the numbers of caps and of cells, the horizon and the output's length
abbrev pub settle_list_checks : ℕ → ℕ → ℕ → ℕ → List Check
settle_list_checks caps cells t out = cells_check cells ∷ horizon_check t ∷ output_check cells out ∷ caps_check cells caps ∷ []

-- checks 1 to 6, 8 and 20
abbrev pub settle_shape_checks : Road → ℕ → ℕ → ℕ → ℕ → List Check
settle_shape_checks r caps cells t out = road_checks r ++ settle_list_checks caps cells t out

-- "settling 1–6 and 8–11", with 20 "after 8 and before 9" (document 02, E7)
abbrev pub settle_checks : Road → List ℕ → List ℕ → ℕ → ℕ → ℕ → ℕ → List Check
settle_checks r caps cells up down t out = settle_shape_checks r (length caps) (length cells) t out ++ pair_checks r cells up down

unfoldable pub settle_refusal : Road → List ℕ → List ℕ → ℕ → ℕ → ℕ → ℕ → Outcome
settle_refusal r caps cells up down t out = judge (settle_checks r caps cells up down t out)

-- the answer: settled or unsettled with the steps made, or the refusal
unfoldable pub settle_answer : Road → List ℕ → List ℕ → ℕ → ℕ → ℕ → ℕ → SettleAnswer
settle_answer r caps cells up down t out =
    unless_refused (settle_refusal r caps cells up down t out)
    (Done (record { settled = settles r caps up down t cells; steps = settle_steps r caps up down t cells }))
    (Refused (settle_refusal r caps cells up down t out))

-- the output: the state after those steps, or its former contents
unfoldable pub settle_output : Road → List ℕ → List ℕ → ℕ → ℕ → ℕ → List ℕ → List ℕ
settle_output r caps cells up down t out =
    unless_refused (settle_refusal r caps cells up down t (length out)) (settle_cells r caps up down t cells) out

-- the paper's numbers of an answer: number (0 when accepted), place, settled or not, steps
pub record Meaning : Type 0 where
  pub number : ℕ
  pub place : ℕ
  pub settled : Bool
  pub steps : ℕ

abbrev pub meaning : SettleAnswer → Meaning
meaning (Done s) = record { number = 0; place = 0; settled = s.settled; steps = s.steps }
meaning (Refused f) = record { number = f.number; place = f.place; settled = false; steps = 0 }

-- the numbers that the documents ask for
unfoldable pub settle_meaning : Road → List ℕ → List ℕ → ℕ → ℕ → ℕ → ℕ → Meaning
settle_meaning r caps cells up down t out = record {
  number = (settle_refusal r caps cells up down t out).number;
  place = (settle_refusal r caps cells up down t out).place;
  settled = unless_refused (settle_refusal r caps cells up down t out) (settles r caps up down t cells) false;
  steps = unless_refused (settle_refusal r caps cells up down t out) (settle_steps r caps up down t cells) 0;
}

-- what an input that no check refuses is
pub record SettleChecked (r : Road) (caps cells : List ℕ) (up down t out : ℕ) : Type 0 where
  pub accepted : Accepted r
  pub cells_low : 1 ≤ length cells
  pub cells_high : length cells ≤ cells_ceiling
  pub horizon_high : t ≤ horizon_ceiling
  pub output_long : out ≡ length cells
  pub caps_long : length caps ≡ length cells + 1
  pub cells_below : Below r.jam cells
  pub up_below : up ≤ r.jam
  pub down_below : down ≤ r.jam

-- demand 1 of a refusal, of the settling run's checks; the one end pair stands at place 0
abbrev pub SettleJudged : Road → List ℕ → List ℕ → ℕ → ℕ → ℕ → ℕ → Outcome → Type 0
SettleJudged r caps cells up down t out f =
    Judged (settle_checks r caps cells up down t out) (SettleChecked r caps cells up down t out) (Placed r cells (up ∷ []) (down ∷ [])) f

-- k steps of one end pair, told face by face: from the cells to the state handed back, with the units over face 0 and face n
abbrev pub PairByFaces : Road → List ℕ → ℕ → ℕ → ℕ → List ℕ → List ℕ → Type 0
PairByFaces r caps up down k cells next =
    RunByFaces r caps (replicate k up) (replicate k down) cells next
    (entered r caps (replicate k up) (replicate k down) cells) (left r caps (replicate k up) (replicate k down) cells)

-- "the full forecast over T steps with the same ends and caps" (document 02, E8): the one end pair in every step, into an output of n, which held the cells
abbrev pub full_forecast : Road → List ℕ → List ℕ → ℕ → ℕ → ℕ → Call
full_forecast r caps cells up down t = record { road = r; caps = caps; horizon = t; ups = replicate t up; downs = replicate t down; out = cells }

-- the site where it is made: the same cells, both totals 0
abbrev pub from_zero : List ℕ → Site
from_zero cells = record { cells = cells; totals = record { entered = 0; left = 0 } }

-- what it leaves in its output, and what it answers
abbrev pub full_cells : Road → List ℕ → List ℕ → ℕ → ℕ → ℕ → List ℕ
full_cells r caps cells up down t = output_of (from_zero cells) (full_forecast r caps cells up down t)

abbrev pub full_answer : Road → List ℕ → List ℕ → ℕ → ℕ → ℕ → ForecastAnswer
full_answer r caps cells up down t = answer_to (from_zero cells) (full_forecast r caps cells up down t)

-- what an accepted run reports and hands back: the least k below T such that step k+1 is still, or T; the state after those steps, in range, which is that of the full forecast
pub record Settlement (r : Road) (caps cells : List ℕ) (up down t : ℕ) (next : List ℕ) (s : Settled) : Type 0 where
  pub least : LeastStill r caps up down t cells s.settled s.steps
  pub state : next ≡ after r caps up down s.steps cells
  pub by_faces : PairByFaces r caps up down s.steps cells next
  pub long : length next ≡ length cells
  pub within : Below r.jam next
  -- "A settled state must then equal the full forecast", which is not refused; so does an unsettled one
  pub full : next ≡ full_cells r caps cells up down t
  pub full_done : (d : Record) × (full_answer r caps cells up down t ≡ Done d)

-- what the call promises: a the answer, out what the output held at entry, next what it holds at exit
pub record Settles (r : Road) (caps cells : List ℕ) (up down t : ℕ) (out next : List ℕ) (a : SettleAnswer) : Type 0 where
  pub answer : a ≡ settle_answer r caps cells up down t (length out)
  pub means : meaning a ≡ settle_meaning r caps cells up down t (length out)
  pub output : next ≡ settle_output r caps cells up down t out
  pub judged : SettleJudged r caps cells up down t (length out) (refused (meaning a).number (meaning a).place)
  pub settlement : (s : Settled) → a ≡ Done s → Settlement r caps cells up down t next s
