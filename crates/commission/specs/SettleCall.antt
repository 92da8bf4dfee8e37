-- The settling run among the public calls: the numbers of its checks, what it did with any input, and what it made of an accepted one.
use Rattle.std.specs.Prelude.{◌≡◌, Bool, List, [], ◌∷◌, ℕ, length}
use Rattle.refusal.specs.Table.{refused}
use Rattle.refusal.specs.Outcome.{Outcome as Refusal}
use Rattle.road.specs.declared.Road.{Road}
use Rattle.scheme.specs.declared.settling.Settled.{Settled}
use Rattle.forecast.specs.Answers.{SettleAnswer}
use Rattle.refusal.specs.Answer.{Done}
use Rattle.forecast.specs.Settle.{settle_checks, meaning, SettleChecked, Settles}
use Rattle.forecast.specs.ForEver as Chain
use Rattle.welgadou.specs.Parts.{flag_of}
use Rattle.welgadou.specs.Level1.{SettledRun}
use Rattle.commission.specs.Outcome.{Outcome}
use Rattle.commission.specs.Places.{PairPlaces}

-- "settling 1–6 and 8–11" (document 01), 20 "after 8 and before 9" (document 02, E7)
abbrev pub settle_numbers : List ℕ
settle_numbers = 1 ∷ 2 ∷ 3 ∷ 4 ∷ 5 ∷ 6 ∷ 8 ∷ 20 ∷ 9 ∷ 10 ∷ 11 ∷ []

-- what came of it: f the refusal that came back
abbrev pub settle_outcome : Road → List ℕ → List ℕ → ℕ → ℕ → ℕ → ℕ → Refusal → Type 0 → Type 0 → Outcome
settle_outcome r caps cells up down t out f Kept Made = record {
  checks = settle_checks r caps cells up down t out;
  numbers = settle_numbers;
  Checked = SettleChecked r caps cells up down t out;
  Placed = PairPlaces r cells up down;
  refusal = f;
  Kept = Kept;
  Made = Made;
}

pub data CalledSettle : Outcome → Type 1 where
  settle : {r : Road} {caps cells : List ℕ} {up down t : ℕ} {out next : List ℕ} {a : SettleAnswer}
      → Settles r caps cells up down t out next a
      → CalledSettle (settle_outcome r caps cells up down t (length out) (refused (meaning a).number (meaning a).place)
      (next ≡ out)
      ((s : Settled) × (a ≡ Done s)))
  welgadou_settle : {r : Road} {caps cells : List ℕ} {up down t : ℕ} {out next : List ℕ} {settled settled-next steps steps_next place number : ℕ}
      → SettledRun r caps cells up down t out next settled settled-next steps steps_next place number
      → CalledSettle (settle_outcome r caps cells up down t (length out) (refused number place)
      ((next ≡ out) × (settled-next ≡ settled) × (steps_next ≡ steps))
      ((b : Bool) × (settled-next ≡ flag_of b)))

-- what an accepted call was given and what it made
pub record AcceptedSettling : Type 0 where
  pub road : Road
  pub caps : List ℕ
  pub cells : List ℕ
  pub up : ℕ
  pub down : ℕ
  pub horizon : ℕ
  pub next : List ℕ
  pub settled : Bool
  pub steps : ℕ

-- as a call of a chain of `forecast`'s specs/ForEver.antt, with what its output held
abbrev pub settle_call_of : AcceptedSettling → List ℕ → Chain.AnyCall
settle_call_of x out = Chain.settle (record { caps = x.caps; horizon = x.horizon; up = x.up; down = x.down; out = out })

pub data SettlingMade : AcceptedSettling → Type 0 where
  settle : {r : Road} {caps cells : List ℕ} {up down t : ℕ} {out next : List ℕ} {a : SettleAnswer} {s : Settled}
      → Settles r caps cells up down t out next a → a ≡ Done s
      → SettlingMade (record { road = r; caps = caps; cells = cells; up = up; down = down; horizon = t; next = next; settled = s.settled; steps = s.steps })
  welgadou_settle : {r : Road} {caps cells : List ℕ} {up down t : ℕ} {out next : List ℕ} {settled settled-next steps steps_next place number : ℕ} {b : Bool}
      → SettledRun r caps cells up down t out next settled settled-next steps steps_next place number → number ≡ 0 → settled-next ≡ flag_of b
      → SettlingMade (record { road = r; caps = caps; cells = cells; up = up; down = down; horizon = t; next = next; settled = b; steps = steps_next })
