-- The values of document 02 and of its requests hold: each is computed from the definitions.
use mathlib.Core.Path.{◌≡◌, ◌∙◌, refl, sym}
use mathlib.Core.Bool.{Bool, true, false}
use mathlib.Core.List.{[], ◌∷◌, ◌++◌}
use Prim.Native.Nat.{ℕ}
use lib.Dec.{eqb}
use lib.IntN.{ℤ, pos}
use lib.Ieee.{Float, fin, round, sum, add, mul, div, lt, eq, le, ne, of_int, of_bits}
use Rattle.choice.specs.Choice.{pick}
use Rattle.refusal.specs.Table.{check, judge, or_if}
use Rattle.road.specs.Judgement.{road_checks, road_refusal}
use Rattle.refusal.specs.Outcome.{Outcome as Refusal}
use Rattle.flux.specs.Face.{sending, receiving, numerator, units, scaled, in_w, in_l, letter}
use Rattle.checks.specs.Values.{first_index_above}
use Rattle.scheme.specs.Advance.{ahead, advance, outflow, entering, leaving, stepped}
use Rattle.scheme.specs.Rounded.{round_run, entered, left}
use Rattle.scheme.specs.Sums.{sum as total, same_list}
use Rattle.scheme.specs.Runs.{iterated}
use Rattle.scheme.specs.Settling.{still, settles, settle_steps, settle_cells}
use Rattle.scheme.specs.Word.{word_of}
use Rattle.forecast.specs.Forecast.{forecast_refusal, forecast_answer, forecast_cells}
use Rattle.forecast.specs.Settle.{settle_refusal, settle_answer, settle_output}
use Rattle.forecast.specs.Chain.{after_all}
use Rattle.rows.specs.Rows.{row_table, row_of, terms, dot, row_value, row_numerators}
use Rattle.modes.specs.Modes.{mode_of, modes_of}
use Rattle.modes.specs.Judging.{read_refusal}
use Rattle.modes.specs.Reading.{count_of, counts_of, queued_of, read_answer}
use Rattle.nearest.specs.Nearest.{alters, searched, change, inserted, ranked_to, ranking}
use Rattle.station.specs.Station.{whole, speed_density, estimate_of, bad_number, bad_given, too_fast, bad_result, station_refusal, station_answer}
use Rattle.station.specs.declared.stations.StationReading.{StationReading}
use Rattle.station.specs.declared.stations.StationReading.TheVariants.{Density, FlowAndSpeed, Speed}
use Rattle.refusal.specs.Answer.{Done, Refused}
use Rattle.commission.specs.Starred.{road_a}
use Rattle.commission.specs.Requests.{fifth, three_fifths, four_fifths, gives, gives_refusal, Requested}

-- E1: what the checks come to, and the answer, once each check's test is known. The tests are worked first, since the table asks for each many times
tests : Bool → Bool → Bool → Refusal
tests given fast outside = judge (road_checks road_a ++ (check given 16 0 ∷ check fast 17 0 ∷ check outside 18 0 ∷ []))

by_tests : (x : StationReading) {given fast outside : Bool} {density : Float}
    → bad_given x ≡ given → too_fast road_a x ≡ fast → bad_result road_a x ≡ outside → estimate_of road_a x ≡ density
    → station_answer road_a x ≡ pick (eqb (tests given fast outside).number 0) (Done (record { density = density })) (Refused (tests given fast outside))
unfolding station_answer station_refusal tests
by_tests x g f o e = λ i. pick (eqb (tests (g i) (f i) (o i)).number 0) (Done (record { density = e i })) (Refused (tests (g i) (f i) (o i)))

-- the estimate and the whole density are both m × 2^e
accepted : (x : StationReading) (density m : ℕ) (e : ℤ) → bad_given x ≡ false → too_fast road_a x ≡ false → bad_result road_a x ≡ false
    → estimate_of road_a x ≡ fin false m e → whole density ≡ fin false m e → gives x density
unfolding tests or_if
accepted x density m e g f o is same = by_tests x g f o (is ∙ sym same)

too_fast_lem : (x : StationReading) → bad_given x ≡ false → too_fast road_a x ≡ true → gives_refusal x 17
unfolding tests or_if
too_fast_lem x g f = by_tests x g f refl refl

pub requested : Requested
unfolding sending receiving numerator units scaled row_table row_of terms dot row_value row_numerators or_if road_refusal first_index_above read_refusal read_answer count_of counts_of queued_of mode_of modes_of ahead advance outflow entering leaving stepped round_run entered left forecast_refusal forecast_answer forecast_cells total iterated still settles settle_steps settle_cells settle_refusal settle_answer settle_output after_all in_w in_l letter word_of same_list alters searched change inserted ranked_to ranking round sum add mul div lt eq le ne of_int of_bits speed_density estimate_of bad_number bad_given too_fast
requested = record {
  density_1000 = accepted (Density (whole 1000)) 1000 125 (pos 3) refl refl refl refl refl;
  flow_80_speed_0·8 = accepted (FlowAndSpeed (whole 80) four_fifths) 100 25 (pos 2) refl refl refl refl refl;
  speed_0 = accepted (Speed (whole 0)) 1000 125 (pos 3) refl refl refl refl refl;
  speed_0·2 = accepted (Speed fifth) 500 125 (pos 2) refl refl refl refl refl;
  speed_0·6 = accepted (Speed three_fifths) 250 125 (pos 1) refl refl refl refl refl;
  flow_3_speed_0·09 = refl;
  speed_0·66 = refl;
  speed_0·8 = too_fast_lem (Speed four_fifths) refl refl;
  half_passes = refl;
  nearest_three = refl;
  nearest_tie = refl;
  totals_increased = refl;
  totals_cell = refl;
  totals_largest = refl;
  totals_past = refl;
  totals_chain = refl;
  alternate = refl;
  queued_three = refl;
  queued_cell_1 = refl;
  queued_cell_2 = refl;
  queued_critical = refl;
  queued_just_above = refl;
  queued_5_above = refl;
  queued_5_below = refl;
  caps_30 = refl;
  caps_30_left = refl;
  caps_30_exact = refl;
  caps_80 = refl;
  caps_80_left = refl;
  caps_80_exact = refl;
  caps_81 = refl;
  caps_81_left = refl;
  caps_81_exact = refl;
  caps_row = refl;
  caps_reached = refl;
  caps_reached_exact = refl;
  caps_reached_rows = refl;
  caps_short = refl;
  caps_short_exact = refl;
  caps_settled = refl;
  still_step = refl;
  still_letters = refl;
  still_sum = refl;
  still_1 = refl;
  still_1_cells = refl;
  still_2 = refl;
  still_2_cells = refl;
  still_3 = refl;
  still_3_cells = refl;
  still_9 = refl;
  still_9_cells = refl;
  still_9_full = refl;
  steps_1440 = refl;
  steps_1440_ends_1439 = refl;
  steps_1441 = refl;
  steps_1441_ends_1440 = refl;
  steps_1441_no_cells = refl;
  steps_4096 = refl;
  settling_1440 = refl;
  settling_1441 = refl;
  settling_1441_output_2 = refl;
}
