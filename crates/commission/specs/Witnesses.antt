-- No hypothesis record of the public contracts is empty: an input that meets each, and a chain of calls that meets that of `for_ever`. `Refusals` departs from these inputs.
use Rattle.std.specs.Prelude.{List, [], ◌∷◌, ℕ, ◌≤◌, ◌<◌, replicate}
use Rattle.road.specs.Ceilings.{cells_ceiling, horizon_ceiling, count_ceiling}
use Rattle.road.specs.Judgement.{Accepted}
use Rattle.road.specs.declared.Road.{Road}
use Rattle.flux.specs.Face.{letter_w, letter_l, letter_d}
use Rattle.scheme.specs.Rounded.{open_cap, open_caps}
use Rattle.forecast.specs.Forecast.{Checked}
use Rattle.forecast.specs.Settle.{SettleChecked}
use Rattle.forecast.specs.Chain.{Commissioned}
use Rattle.forecast.specs.ForEver.{AnyCall, forecast, settle, AllPass, forecast_steps, lifetime}
use Rattle.modes.specs.Reading.{ReadChecked}
use Rattle.modes.specs.Fit.{FitChecked}
use Rattle.rows.specs.Prediction.{Uncapped, PredictChecked}
use Rattle.candidate.specs.Candidate.{CandidateChecked}
use Rattle.station.specs.Station.{whole, StationChecked}
use Rattle.nearest.specs.Nearest.{NearestChecked}
use Rattle.station.specs.declared.stations.StationReading.TheVariants.{Density, FlowAndSpeed, Speed}
use Rattle.commission.specs.Starred.{road_a, totals, none, three}
use Rattle.commission.specs.Requests.{fifth, four_fifths, site}

-- a road from its five numbers: D, p, q, J, C
abbrev pub road : ℕ → ℕ → ℕ → ℕ → ℕ → Road
road d p q j c = record { divisor = d; free = p; wave = q; jam = j; critical = c }

-- the starred ends 100 and 0, for three steps
abbrev pub ups : List ℕ
ups = 100 ∷ 100 ∷ 100 ∷ []

abbrev pub downs : List ℕ
downs = 0 ∷ 0 ∷ 0 ∷ []

-- caps of three cells that narrow faces 1 and 3; and caps that the numerators of the starred three cells, 400, 800, 300 and 800, just reach
abbrev pub narrowed : List ℕ
narrowed = open_cap ∷ 50 ∷ open_cap ∷ 100 ∷ []

abbrev pub reached : List ℕ
reached = 80 ∷ 160 ∷ 60 ∷ 160 ∷ []

-- the word of the starred three cells: D L W L
abbrev pub own_word : List ℕ
own_word = letter_d ∷ letter_l ∷ letter_w ∷ letter_l ∷ []

-- calls of a chain, each with an output that held the starred cells
abbrev pub three_steps : AnyCall
three_steps = forecast (record { road = road_a; caps = open_caps 3; horizon = 3; ups = ups; downs = downs; out = three })

abbrev pub up_to_nine : AnyCall
up_to_nine = settle (record { caps = narrowed; horizon = 9; up = 100; down = 0; out = three })

abbrev pub three_calls : List AnyCall
three_calls = three_steps ∷ up_to_nine ∷ three_steps ∷ []

pub record Witnessed : Type 0 where
  -- a road: road A, and the smallest, "J 2, C 1, D p q all 1"
  pub accepted : Accepted road_a
  pub accepted_smallest : Accepted (road 1 1 1 2 1)
  -- forecast: caps, cells, upstream and downstream ends, T, the totals so far, length of the output; totals that come to the largest itself; and the longest on the most cells
  pub forecast : Checked road_a (open_caps 3) three ups downs 3 none 3
  pub forecast_largest : Checked road_a (open_caps 3) three ups downs 3 (totals 18446744073709551375 18446744073709551135) 3
  pub forecast_longest : Checked road_a (open_caps cells_ceiling) (replicate cells_ceiling 200) (replicate horizon_ceiling 100) (replicate horizon_ceiling 0) horizon_ceiling none cells_ceiling
  -- settling run: caps, cells, the end pair, T, length of the output
  pub settle : SettleChecked road_a narrowed three 100 0 9 3
  -- a chain of three calls, for ever: a forecast of three steps, a settling run of up to nine, and the forecast again
  pub chain : AllPass road_a 3 three_calls
  pub chain_begins : Commissioned (site three none)
  pub chain_lasts : forecast_steps three_calls ≤ lifetime
  -- reading: cells, the end pair, lengths of the letters and of the modes
  pub read : ReadChecked road_a three 100 0 4 3
  -- fit test and row prediction: cells, the end pair, the word, and the second's length of the output
  pub fit : FitChecked road_a three 100 0 own_word
  pub predict : PredictChecked road_a three 100 0 own_word 3
  -- caps that leave every cell alone, equality included
  pub uncapped : (k : ℕ) → k < 3 → Uncapped road_a reached 100 0 three k
  -- candidate prediction: mode, left, own and right
  pub candidate : CandidateChecked road_a 6 (whole 100) (whole 300) (whole 150)
  -- word count: the ceiling itself
  pub count : count_ceiling ≤ count_ceiling
  -- station: a reading of each kind
  pub station_density : StationChecked road_a (Density (whole 1000))
  pub station_flow_and_speed : StationChecked road_a (FlowAndSpeed (whole 80) four_fifths)
  pub station_speed : StationChecked road_a (Speed fifth)
  -- how near the next mode is: cells, the end pair, lengths of the numbers and of the changes
  pub nearest : NearestChecked road_a three 100 0 3 3
