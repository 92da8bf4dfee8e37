-- Each witness: the number of its refusal is computed to be 0, so that it is checked.
use mathlib.Core.Path.{refl}
use mathlib.Core.List.{List}
use Prim.Native.Nat.{ℕ, zero, suc, ◌<◌}
use native.Mathlib.Omega.{arith}
use lib.Dec.{lit≤}
use lib.ListN.{replicate}
use lib.Ieee.{round, sum, add, mul, div, lt, eq, le, ne, of_int, of_bits}
use Rattle.road.specs.Ceilings.{cells_ceiling, horizon_ceiling}
use Rattle.refusal.specs.Table.{or_if}
use Rattle.road.specs.Judgement.{road_refusal}
use Rattle.road.proofs.Acceptance.{accepted_of}
use Rattle.refusal.proofs.Calls.{checked}
use Rattle.checks.specs.Values.{first_index_above}
use Rattle.flux.specs.Face.{sending, receiving, numerator, units}
use Rattle.scheme.specs.Advance.{ahead, advance, outflow, entering, leaving, stepped, padded}
use Rattle.scheme.specs.ByFaces.{numerator_over}
use Rattle.scheme.specs.Rounded.{open_caps, round_run, entered, left}
use Rattle.scheme.proofs.Promises.{round_small}
use Rattle.forecast.specs.Forecast.{input_refusal, forecast_refusal, InputChecked, Checked}
use Rattle.forecast.specs.Settle.{settle_refusal, SettleChecked}
use Rattle.forecast.specs.ForEver.{Passes, AllPass}
use Rattle.forecast.proofs.Checked.{input_checked, forecast_call, settle_call}
use Rattle.words.specs.Words.{illegal_pair, offends, first_offence, legal}
use Rattle.modes.specs.Judging.{read_refusal, fit_refusal}
use Rattle.rows.specs.Judging.{predict_refusal}
use Rattle.rows.specs.Prediction.{Uncapped}
use Rattle.candidate.specs.Candidate.{candidate_refusal}
use Rattle.modes.proofs.ReadJudging.{read_call}
use Rattle.modes.proofs.FitAnswers.{fit_call}
use Rattle.rows.proofs.PredictAnswers.{predict_call}
use Rattle.candidate.proofs.CandidateAnswers.{candidate_call}
use Rattle.station.specs.Station.{whole, speed_density, estimate_of, bad_number, bad_given, too_fast, station_refusal}
use Rattle.station.specs.declared.stations.StationReading.TheVariants.{Density, FlowAndSpeed, Speed}
use Rattle.nearest.specs.Nearest.{nearest_refusal}
use Rattle.station.proofs.StationAnswers.{station_call}
use Rattle.nearest.proofs.NearestJudging.{nearest_call}
use Rattle.commission.specs.Starred.{road_a, totals, none, three}
use Rattle.commission.specs.Requests.{fifth, four_fifths}
use Rattle.commission.specs.Witnesses.{road, ups, downs, narrowed, reached, own_word, three_steps, up_to_nine, three_calls, Witnessed}

-- the calls of the chain pass as the same calls made alone
module _ (f : InputChecked road_a (open_caps 3) three ups downs 3 3) (s : SettleChecked road_a narrowed three 100 0 9 3) where
  forecast_passes : Passes road_a 3 three_steps
  forecast_passes = record {
    same_road = refl;
    horizon_high = f.horizon_high;
    ups_long = f.ups_long;
    downs_long = f.downs_long;
    output_long = f.output_long;
    caps_long = f.caps_long;
    ups_below = f.ups_below;
    downs_below = f.downs_below;
  }

  settle_passes : Passes road_a 3 up_to_nine
  settle_passes = record { horizon_high = s.horizon_high; output_long = s.output_long; caps_long = s.caps_long; up_below = s.up_below; down_below = s.down_below }

  passes : AllPass road_a 3 three_calls
  passes = (forecast_passes, (settle_passes, (forecast_passes, tt)))

-- totals of 0 fit with the longest forecast, by what its steps can move at most
longest : (caps cells ups downs : List ℕ) (out : ℕ) → InputChecked road_a caps cells ups downs horizon_ceiling out → Checked road_a caps cells ups downs horizon_ceiling none out
longest caps cells ups downs out c =
    let small = round_small road_a caps c.accepted ups downs cells c.ups_below c.cells_below in
    let long = c.ups_long in
    record { input = c; fits = record { entered_fits = omega (arith, small.0); left_fits = omega (arith, small.1) } }

-- each numerator is its cap × 5
uncapped : (k : ℕ) → k < 3 → Uncapped road_a reached 100 0 three k
unfolding numerator_over numerator sending receiving padded
uncapped zero h = record { left = lit≤ tt; right = lit≤ tt }
uncapped (suc zero) h = record { left = lit≤ tt; right = lit≤ tt }
uncapped (suc (suc zero)) h = record { left = lit≤ tt; right = lit≤ tt }
uncapped (suc (suc (suc k))) h = absurd (omega arith)

pub witnessed : Witnessed
unfolding round sum add mul div lt eq le ne of_int of_bits or_if road_refusal first_index_above ahead advance outflow entering leaving stepped sending receiving numerator units round_run entered left input_refusal forecast_refusal settle_refusal illegal_pair offends first_offence legal read_refusal fit_refusal predict_refusal candidate_refusal speed_density estimate_of bad_number bad_given too_fast station_refusal nearest_refusal
witnessed = record {
  accepted = accepted_of road_a refl;
  accepted_smallest = accepted_of (road 1 1 1 2 1) refl;
  forecast = checked (forecast_call road_a (open_caps 3) three ups downs 3 3 none) refl;
  forecast_largest = checked (forecast_call road_a (open_caps 3) three ups downs 3 3 (totals 18446744073709551375 18446744073709551135)) refl;
  forecast_longest =
      longest (open_caps cells_ceiling) (replicate cells_ceiling 200) (replicate horizon_ceiling 100) (replicate horizon_ceiling 0) cells_ceiling
      (input_checked road_a (open_caps cells_ceiling) (replicate cells_ceiling 200) (replicate horizon_ceiling 100) (replicate horizon_ceiling 0) horizon_ceiling cells_ceiling refl);
  settle = checked (settle_call road_a narrowed three 100 0 9 3) refl;
  chain = passes (input_checked road_a (open_caps 3) three ups downs 3 3 refl) (checked (settle_call road_a narrowed three 100 0 9 3) refl);
  chain_begins = (refl, refl);
  chain_lasts = lit≤ tt;
  read = checked (read_call road_a three 100 0 4 3) refl;
  fit = checked (fit_call road_a three 100 0 own_word) refl;
  predict = checked (predict_call road_a three 100 0 own_word 3) refl;
  uncapped = uncapped;
  candidate = checked (candidate_call road_a 6 (whole 100) (whole 300) (whole 150)) refl;
  count = lit≤ tt;
  station_density = checked (station_call road_a (Density (whole 1000))) refl;
  station_flow_and_speed = checked (station_call road_a (FlowAndSpeed (whole 80) four_fifths)) refl;
  station_speed = checked (station_call road_a (Speed fifth)) refl;
  nearest = checked (nearest_call road_a three 100 0 3 3) refl;
}
