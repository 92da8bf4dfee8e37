-- Every number of the refusal table, computed from the definitions.
use mathlib.Core.Path.{refl, ap₂}
use lib.Ieee.{round, sum, add, mul, div, lt, eq, le, ne, of_int, of_bits}
use Rattle.refusal.specs.Table.{refused, or_if}
use Rattle.road.specs.Judgement.{road_refusal}
use Rattle.checks.specs.Values.{first_index_above}
use Rattle.flux.specs.Face.{sending, receiving, numerator, units}
use Rattle.scheme.specs.Advance.{ahead, advance, outflow, entering, leaving, stepped}
use Rattle.scheme.specs.Rounded.{entered, left}
use Rattle.forecast.specs.Forecast.{forecast_refusal, forecast_answer}
use Rattle.forecast.specs.Settle.{settle_refusal, settle_answer}
use Rattle.words.specs.Words.{illegal_pair, offends, first_offence, legal}
use Rattle.modes.specs.Judging.{read_refusal, fit_refusal}
use Rattle.rows.specs.Judging.{predict_refusal}
use Rattle.modes.specs.Reading.{read_answer}
use Rattle.modes.specs.Fit.{fit_answer}
use Rattle.rows.specs.Prediction.{predict_answer}
use Rattle.candidate.specs.Candidate.{candidate_refusal, candidate_answer, candidate_meaning}
use Rattle.counting.specs.WordCount.{turned, word_count}
use Rattle.counting.specs.Count.{count_refusal, count_answer}
use Rattle.station.specs.Station.{speed_density, estimate_of, bad_number, bad_given, too_fast, station_refusal, station_answer}
use Rattle.nearest.specs.Nearest.{nearest_refusal, nearest_answer}
use Rattle.commission.specs.Refusals.{Refusals}

pub refusals : Refusals
unfolding round sum add mul div lt eq le ne of_int of_bits or_if road_refusal first_index_above sending receiving numerator units ahead advance outflow entering leaving stepped entered left forecast_refusal forecast_answer settle_refusal settle_answer illegal_pair offends first_offence legal read_refusal fit_refusal predict_refusal read_answer fit_answer predict_answer candidate_refusal candidate_answer candidate_meaning turned word_count count_refusal count_answer speed_density estimate_of bad_number bad_given too_fast station_refusal station_answer nearest_refusal nearest_answer
refusals = record {
  road_1 = refl;
  road_2 = refl;
  road_3 = refl;
  road_4 = refl;
  road_1_none = refl;
  road_2_p_0 = refl;
  road_2_q_0 = refl;
  road_2_q = refl;
  road_3_j = refl;
  road_3_c_0 = refl;
  road_3_c_j = refl;
  road_4_below = refl;
  road_4096 = refl;
  road_4097 = refl;
  road_1000001 = refl;
  settle_256_1440 = refl;
  settle_257 = refl;
  settle_1441 = refl;
  settle_at_jam = refl;
  forecast_1 = refl;
  forecast_2 = refl;
  forecast_3 = refl;
  forecast_4 = refl;
  forecast_5_none = refl;
  forecast_5_many = refl;
  forecast_6 = refl;
  forecast_7_up = refl;
  forecast_7_down = refl;
  forecast_7_up_long = refl;
  forecast_7_down_long = refl;
  forecast_8 = refl;
  forecast_8_long = refl;
  forecast_20_none = refl;
  forecast_20_short = refl;
  forecast_20_long = refl;
  forecast_20_before_9 = refl;
  forecast_8_before_20 = refl;
  forecast_9 = refl;
  forecast_10 = refl;
  forecast_11 = refl;
  forecast_20_before_19 = refl;
  forecast_9_before_19 = refl;
  forecast_10_before_19 = refl;
  forecast_11_before_19 = refl;
  forecast_19_entered = refl;
  forecast_19_left = refl;
  settle_1 = refl;
  settle_2 = refl;
  settle_3 = refl;
  settle_4 = refl;
  settle_5 = refl;
  settle_6 = refl;
  settle_8 = refl;
  settle_20_none = refl;
  settle_20_short = refl;
  settle_20_long = refl;
  settle_20_before_9 = refl;
  settle_8_before_20 = refl;
  settle_9 = refl;
  settle_10 = refl;
  settle_11 = refl;
  read_1 = refl;
  read_2 = refl;
  read_3 = refl;
  read_4 = refl;
  read_5 = refl;
  read_8_letters = refl;
  read_8_modes = refl;
  read_9 = refl;
  read_10 = refl;
  read_11 = refl;
  fit_1 = refl;
  fit_2 = refl;
  fit_3 = refl;
  fit_4 = refl;
  fit_5 = refl;
  fit_9 = refl;
  fit_10 = refl;
  fit_11 = refl;
  fit_12_length = refl;
  fit_12_length_long = refl;
  fit_12_code = refl;
  fit_12_pair_w_d = refl;
  fit_12_pair_l_l = refl;
  predict_1 = refl;
  predict_2 = refl;
  predict_3 = refl;
  predict_4 = refl;
  predict_5 = refl;
  predict_8 = refl;
  predict_9 = refl;
  predict_10 = refl;
  predict_11 = refl;
  predict_12_length = refl;
  predict_12_code = refl;
  predict_12_pair_w_d = refl;
  predict_12_pair_l_l = refl;
  candidate_1 = refl;
  candidate_2 = refl;
  candidate_3 = refl;
  candidate_4 = refl;
  candidate_13_low = refl;
  candidate_13_high = refl;
  candidate_1_passes = refl;
  candidate_7_passes = refl;
  welgadou_candidate_13 = λ c. ap₂ refused c.returned c.placed;
  candidate_14_left = refl;
  candidate_14_own = refl;
  candidate_14_right = refl;
  candidate_14_left_below = refl;
  candidate_14_left_above = refl;
  candidate_14_own_nan = refl;
  candidate_14_own_above = refl;
  candidate_14_right_nan = refl;
  candidate_14_right_below = refl;
  count_15 = refl;
  count_40 = refl;
  station_1 = refl;
  station_2 = refl;
  station_3 = refl;
  station_4 = refl;
  station_16_infinite = refl;
  station_16_below_0 = refl;
  station_16_no_number = refl;
  station_16_zero_speed = refl;
  station_16_flow_nan = refl;
  station_16_flow_below_0 = refl;
  station_16_speed_nan = refl;
  station_16_speed_below_0 = refl;
  station_16_speed_infinite = refl;
  station_16_flow_infinite = refl;
  station_16_beside_nan = refl;
  station_16_beside_below_0 = refl;
  station_16_beside_minus_0 = refl;
  station_16_density_infinite = refl;
  station_16_density_below_0 = refl;
  station_17 = refl;
  station_17_above = refl;
  station_17_rounded = refl;
  station_18 = refl;
  station_18_flow = refl;
  station_18_beyond = refl;
  nearest_1 = refl;
  nearest_2 = refl;
  nearest_3 = refl;
  nearest_4 = refl;
  nearest_5 = refl;
  nearest_8_numbers = refl;
  nearest_8_changes = refl;
  nearest_9 = refl;
  nearest_10 = refl;
  nearest_11 = refl;
}
