-- Every number of the refusal table (document 01, "Where each refusal is made"; document 02, E1, E3, E4, E7 and E9), pinned by an input: one record, at least one field for each number of a call, and inputs at the edge that pass.
-- But where a comment says otherwise the named check alone applies to its input, so that no two numbers can be exchanged. Where a check has a place and room for it, a later
-- offence stands behind the first one.
use Rattle.std.specs.Prelude.{◌≡◌, true, false, List, [], ◌∷◌, ℕ, pos, Float, replicate}
use Rattle.std.specs.Float.{nan, inf, fin, binary64}
use Rattle.std.specs.Float.Ieee.{of_bits}
use Rattle.refusal.specs.Table.{refused, passed}
use Rattle.road.specs.Judgement.{road_refusal}
use Rattle.road.specs.declared.Road.{Road}
use Rattle.flux.specs.Face.{letter_w, letter_l, letter_d}
use Rattle.scheme.specs.Rounded.{open_caps}
use Rattle.scheme.specs.declared.many_steps.Totals.{Totals}
use Rattle.forecast.specs.Forecast.{forecast_answer}
use Rattle.forecast.specs.Settle.{settle_refusal, settle_answer}
use Rattle.refusal.specs.Answer.{Done, Refused}
use Rattle.modes.specs.Reading.{read_answer}
use Rattle.modes.specs.Fit.{fit_answer}
use Rattle.rows.specs.Prediction.{predict_answer}
use Rattle.candidate.specs.Candidate.{candidate_refusal, candidate_answer}
use Rattle.counting.specs.Count.{count_answer}
use Rattle.station.specs.Station.{whole, station_answer}
use Rattle.station.specs.declared.stations.StationReading.TheVariants.{Density, FlowAndSpeed, Speed}
use Rattle.nearest.specs.Nearest.{nearest_answer}
use Rattle.welgadou.specs.Level2.{CandidatePredicted}
use Rattle.commission.specs.Starred.{road_a, totals, none, three}
use Rattle.commission.specs.Requests.{four_fifths}
use Rattle.commission.specs.Witnesses.{road, ups, downs, own_word}

-- roads that one check alone refuses: road A with D 4097; with D 3; with J 1000005 and C 200001; with C 201
abbrev pub road1 : Road
road1 = road 4097 4 1 1000 200

abbrev pub road2 : Road
road2 = road 3 4 1 1000 200

abbrev pub road3 : Road
road3 = road 5 4 1 1000005 200001

abbrev pub road4 : Road
road4 = road 5 4 1 1000 201

-- two of a list, four of it, and three of which the second and the third are above the jam density of road A
abbrev pub two : List ℕ
two = 0 ∷ 0 ∷ []

abbrev pub four : List ℕ
four = 0 ∷ 0 ∷ 0 ∷ 0 ∷ []

abbrev pub above : List ℕ
above = 0 ∷ 1001 ∷ 1002 ∷ []

-- totals that no unit more fits into
abbrev pub full : Totals
full = totals 18446744073709551615 18446744073709551615

-- words that check 12 refuses for three cells: a letter short, a letter long, a code unknown, W followed by D, L followed by L. Each offends once more or twice, which is not reported
abbrev pub short : List ℕ
short = 3 ∷ letter_l ∷ letter_w ∷ []

abbrev pub long : List ℕ
long = 3 ∷ letter_l ∷ letter_w ∷ letter_l ∷ letter_l ∷ []

abbrev pub unknown : List ℕ
unknown = letter_d ∷ 3 ∷ letter_l ∷ letter_l ∷ []

abbrev pub w_then_d : List ℕ
w_then_d = letter_d ∷ letter_w ∷ letter_d ∷ 3 ∷ []

abbrev pub l_then_l : List ℕ
l_then_l = letter_d ∷ letter_l ∷ letter_l ∷ letter_l ∷ []

-- −5e-324, the greatest number below 0, and a speed beside which a flow of so little would be −0.0: 2 to the power 996, about 6.7e299
abbrev pub least_below_0 : Float
least_below_0 = of_bits binary64 9223372036854775809

abbrev pub huge : Float
huge = of_bits binary64 9092767647661031424

-- a number below 0, and the 0 that has a −, which is not
abbrev pub −1·0 : Float
−1·0 = fin true 1 (pos 0)

abbrev pub −0·0 : Float
−0·0 = fin true 0 (pos 0)

pub record Refusals : Type 0 where
  -- the roads that document 01 prints; of the first three a later check applies as well
  pub road_1 : road_refusal (road 0 4 1 1 200) ≡ refused 1 0
  pub road_2 : road_refusal (road 5 6 1 1000 200) ≡ refused 2 0
  pub road_3 : road_refusal (road 5 4 1 1000 1000) ≡ refused 3 0
  pub road_4 : road_refusal (road 5 4 1 1000 201) ≡ refused 4 0
  -- each part of a road's conditions: D 0, where 2 applies as well, since no speed is at most 0; p 0, q 0 and q above D; J 1, where no C is in range, C 0 and C = J. In all of these but that of D 0, 4 applies as well
  pub road_1_none : road_refusal (road 0 0 0 1000 200) ≡ refused 1 0
  pub road_2_p_0 : road_refusal (road 5 0 1 1000 200) ≡ refused 2 0
  pub road_2_q_0 : road_refusal (road 5 4 0 1000 200) ≡ refused 2 0
  pub road_2_q : road_refusal (road 5 4 6 1000 200) ≡ refused 2 0
  pub road_3_j : road_refusal (road 5 1 1 1 1) ≡ refused 3 0
  pub road_3_c_0 : road_refusal (road 5 4 1 1000 0) ≡ refused 3 0
  pub road_3_c_j : road_refusal (road 5 4 1 200 200) ≡ refused 3 0
  -- 4 alone, p × C below q × (J − C) where road_4 has it above
  pub road_4_below : road_refusal (road 5 4 1 1000 199) ≡ refused 4 0
  -- the ceilings of D and J, by their numerals: each itself accepted, one beyond it refused, with nothing else that refuses
  pub road_4096 : road_refusal (road 4096 4096 4096 1000000 500000) ≡ passed
  pub road_4097 : road_refusal (road 4097 4096 4096 1000000 500000) ≡ refused 1 0
  pub road_1000001 : road_refusal (road 4096 100 1 1000001 9901) ≡ refused 3 0
  -- the ceilings of cells and horizon: 256 cells over 1,440 steps, 257 cells, 1,441 steps
  pub settle_256_1440 : settle_refusal road_a (open_caps 256) (replicate 256 200) 100 0 1440 256 ≡ passed
  pub settle_257 : settle_refusal road_a (open_caps 257) (replicate 257 200) 100 0 1440 257 ≡ refused 5 0
  pub settle_1441 : settle_refusal road_a (open_caps 256) (replicate 256 200) 100 0 1441 256 ≡ refused 6 0
  -- the jam density itself passes, in a cell and at either end
  pub settle_at_jam : settle_refusal road_a (open_caps 3) (1000 ∷ 0 ∷ 1000 ∷ []) 1000 1000 9 3 ≡ passed
  -- forecast: caps, cells, upstream and downstream ends, T, the totals so far, length of the output
  pub forecast_1 : forecast_answer road1 (open_caps 3) three ups downs 3 none 3 ≡ Refused (refused 1 0)
  pub forecast_2 : forecast_answer road2 (open_caps 3) three ups downs 3 none 3 ≡ Refused (refused 2 0)
  pub forecast_3 : forecast_answer road3 (open_caps 3) three ups downs 3 none 3 ≡ Refused (refused 3 0)
  pub forecast_4 : forecast_answer road4 (open_caps 3) three ups downs 3 none 3 ≡ Refused (refused 4 0)
  pub forecast_5_none : forecast_answer road_a (open_caps 0) [] ups downs 3 none 0 ≡ Refused (refused 5 0)
  pub forecast_5_many : forecast_answer road_a (open_caps 257) (replicate 257 0) ups downs 3 none 257 ≡ Refused (refused 5 0)
  pub forecast_6 : forecast_answer road_a (open_caps 3) three (replicate 1441 0) (replicate 1441 0) 1441 none 3 ≡ Refused (refused 6 0)
  pub forecast_7_up : forecast_answer road_a (open_caps 3) three two downs 3 none 3 ≡ Refused (refused 7 0)
  pub forecast_7_down : forecast_answer road_a (open_caps 3) three ups two 3 none 3 ≡ Refused (refused 7 0)
  pub forecast_7_up_long : forecast_answer road_a (open_caps 3) three four downs 3 none 3 ≡ Refused (refused 7 0)
  pub forecast_7_down_long : forecast_answer road_a (open_caps 3) three ups four 3 none 3 ≡ Refused (refused 7 0)
  pub forecast_8 : forecast_answer road_a (open_caps 3) three ups downs 3 none 2 ≡ Refused (refused 8 0)
  pub forecast_8_long : forecast_answer road_a (open_caps 3) three ups downs 3 none 4 ≡ Refused (refused 8 0)
  -- 20: no caps, n of them, n + 2; and its place in the call's order of checks: before 9, which applies as well; and after 8, where both do
  pub forecast_20_none : forecast_answer road_a [] three ups downs 3 none 3 ≡ Refused (refused 20 0)
  pub forecast_20_short : forecast_answer road_a (open_caps 2) three ups downs 3 none 3 ≡ Refused (refused 20 0)
  pub forecast_20_long : forecast_answer road_a (open_caps 4) three ups downs 3 none 3 ≡ Refused (refused 20 0)
  pub forecast_20_before_9 : forecast_answer road_a (open_caps 2) above ups downs 3 none 3 ≡ Refused (refused 20 0)
  pub forecast_8_before_20 : forecast_answer road_a (open_caps 2) above ups downs 3 none 2 ≡ Refused (refused 8 0)
  pub forecast_9 : forecast_answer road_a (open_caps 3) above ups downs 3 none 3 ≡ Refused (refused 9 2)
  pub forecast_10 : forecast_answer road_a (open_caps 3) three above downs 3 none 3 ≡ Refused (refused 10 1)
  pub forecast_11 : forecast_answer road_a (open_caps 3) three ups above 3 none 3 ≡ Refused (refused 11 1)
  -- 19 last: of each of these it applies as well, with totals that no unit more fits into
  pub forecast_20_before_19 : forecast_answer road_a (open_caps 2) three ups downs 3 full 3 ≡ Refused (refused 20 0)
  pub forecast_9_before_19 : forecast_answer road_a (open_caps 3) above ups downs 3 full 3 ≡ Refused (refused 9 2)
  pub forecast_10_before_19 : forecast_answer road_a (open_caps 3) three above downs 3 full 3 ≡ Refused (refused 10 1)
  pub forecast_11_before_19 : forecast_answer road_a (open_caps 3) three ups above 3 full 3 ≡ Refused (refused 11 1)
  -- either total alone, by one unit: the three steps let 240 enter and 480 leave
  pub forecast_19_entered : forecast_answer road_a (open_caps 3) three ups downs 3 (totals 18446744073709551376 0) 3 ≡ Refused (refused 19 0)
  pub forecast_19_left : forecast_answer road_a (open_caps 3) three ups downs 3 (totals 0 18446744073709551136) 3 ≡ Refused (refused 19 0)
  -- settling run: caps, cells, the end pair, T, length of the output
  pub settle_1 : settle_answer road1 (open_caps 3) three 100 0 9 3 ≡ Refused (refused 1 0)
  pub settle_2 : settle_answer road2 (open_caps 3) three 100 0 9 3 ≡ Refused (refused 2 0)
  pub settle_3 : settle_answer road3 (open_caps 3) three 100 0 9 3 ≡ Refused (refused 3 0)
  pub settle_4 : settle_answer road4 (open_caps 3) three 100 0 9 3 ≡ Refused (refused 4 0)
  pub settle_5 : settle_answer road_a (open_caps 0) [] 100 0 9 0 ≡ Refused (refused 5 0)
  pub settle_6 : settle_answer road_a (open_caps 3) three 100 0 1441 3 ≡ Refused (refused 6 0)
  pub settle_8 : settle_answer road_a (open_caps 3) three 100 0 9 2 ≡ Refused (refused 8 0)
  -- 20 likewise
  pub settle_20_none : settle_answer road_a [] three 100 0 9 3 ≡ Refused (refused 20 0)
  pub settle_20_short : settle_answer road_a (open_caps 2) three 100 0 9 3 ≡ Refused (refused 20 0)
  pub settle_20_long : settle_answer road_a (open_caps 4) three 100 0 9 3 ≡ Refused (refused 20 0)
  pub settle_20_before_9 : settle_answer road_a (open_caps 2) above 100 0 9 3 ≡ Refused (refused 20 0)
  pub settle_8_before_20 : settle_answer road_a (open_caps 2) above 100 0 9 2 ≡ Refused (refused 8 0)
  pub settle_9 : settle_answer road_a (open_caps 3) above 100 0 9 3 ≡ Refused (refused 9 2)
  pub settle_10 : settle_answer road_a (open_caps 3) three 1001 0 9 3 ≡ Refused (refused 10 0)
  pub settle_11 : settle_answer road_a (open_caps 3) three 100 1001 9 3 ≡ Refused (refused 11 0)
  -- reading: cells, the end pair, lengths of the letters and of the modes
  pub read_1 : (read_answer road1 three 100 0 4 3).answer ≡ Refused (refused 1 0)
  pub read_2 : (read_answer road2 three 100 0 4 3).answer ≡ Refused (refused 2 0)
  pub read_3 : (read_answer road3 three 100 0 4 3).answer ≡ Refused (refused 3 0)
  pub read_4 : (read_answer road4 three 100 0 4 3).answer ≡ Refused (refused 4 0)
  pub read_5 : (read_answer road_a [] 100 0 1 0).answer ≡ Refused (refused 5 0)
  pub read_8_letters : (read_answer road_a three 100 0 3 3).answer ≡ Refused (refused 8 0)
  pub read_8_modes : (read_answer road_a three 100 0 4 4).answer ≡ Refused (refused 8 0)
  pub read_9 : (read_answer road_a above 100 0 4 3).answer ≡ Refused (refused 9 2)
  pub read_10 : (read_answer road_a three 1001 0 4 3).answer ≡ Refused (refused 10 0)
  pub read_11 : (read_answer road_a three 100 1001 4 3).answer ≡ Refused (refused 11 0)
  -- fit test: cells, the end pair, the word
  pub fit_1 : fit_answer road1 three 100 0 own_word ≡ Refused (refused 1 0)
  pub fit_2 : fit_answer road2 three 100 0 own_word ≡ Refused (refused 2 0)
  pub fit_3 : fit_answer road3 three 100 0 own_word ≡ Refused (refused 3 0)
  pub fit_4 : fit_answer road4 three 100 0 own_word ≡ Refused (refused 4 0)
  pub fit_5 : fit_answer road_a [] 100 0 (letter_d ∷ []) ≡ Refused (refused 5 0)
  pub fit_9 : fit_answer road_a above 100 0 own_word ≡ Refused (refused 9 2)
  pub fit_10 : fit_answer road_a three 1001 0 own_word ≡ Refused (refused 10 0)
  pub fit_11 : fit_answer road_a three 100 1001 own_word ≡ Refused (refused 11 0)
  pub fit_12_length : fit_answer road_a three 100 0 short ≡ Refused (refused 12 4)
  pub fit_12_length_long : fit_answer road_a three 100 0 long ≡ Refused (refused 12 4)
  pub fit_12_code : fit_answer road_a three 100 0 unknown ≡ Refused (refused 12 1)
  pub fit_12_pair_w_d : fit_answer road_a three 100 0 w_then_d ≡ Refused (refused 12 2)
  pub fit_12_pair_l_l : fit_answer road_a three 100 0 l_then_l ≡ Refused (refused 12 2)
  -- row prediction: cells, the end pair, the word, length of the output
  pub predict_1 : predict_answer road1 three 100 0 own_word 3 ≡ Refused (refused 1 0)
  pub predict_2 : predict_answer road2 three 100 0 own_word 3 ≡ Refused (refused 2 0)
  pub predict_3 : predict_answer road3 three 100 0 own_word 3 ≡ Refused (refused 3 0)
  pub predict_4 : predict_answer road4 three 100 0 own_word 3 ≡ Refused (refused 4 0)
  pub predict_5 : predict_answer road_a [] 100 0 (letter_d ∷ []) 0 ≡ Refused (refused 5 0)
  pub predict_8 : predict_answer road_a three 100 0 own_word 4 ≡ Refused (refused 8 0)
  pub predict_9 : predict_answer road_a above 100 0 own_word 3 ≡ Refused (refused 9 2)
  pub predict_10 : predict_answer road_a three 1001 0 own_word 3 ≡ Refused (refused 10 0)
  pub predict_11 : predict_answer road_a three 100 1001 own_word 3 ≡ Refused (refused 11 0)
  pub predict_12_length : predict_answer road_a three 100 0 short 3 ≡ Refused (refused 12 4)
  pub predict_12_code : predict_answer road_a three 100 0 unknown 3 ≡ Refused (refused 12 1)
  pub predict_12_pair_w_d : predict_answer road_a three 100 0 w_then_d 3 ≡ Refused (refused 12 2)
  pub predict_12_pair_l_l : predict_answer road_a three 100 0 l_then_l 3 ≡ Refused (refused 12 2)
  -- candidate prediction: mode, left, own and right
  pub candidate_1 : candidate_answer road1 6 (whole 100) (whole 300) (whole 150) ≡ Refused (refused 1 0)
  pub candidate_2 : candidate_answer road2 6 (whole 100) (whole 300) (whole 150) ≡ Refused (refused 2 0)
  pub candidate_3 : candidate_answer road3 6 (whole 100) (whole 300) (whole 150) ≡ Refused (refused 3 0)
  pub candidate_4 : candidate_answer road4 6 (whole 100) (whole 300) (whole 150) ≡ Refused (refused 4 0)
  pub candidate_13_low : candidate_answer road_a 0 (whole 100) (whole 300) (whole 150) ≡ Refused (refused 13 0)
  pub candidate_13_high : candidate_answer road_a 8 (whole 100) (whole 300) (whole 150) ≡ Refused (refused 13 0)
  -- the first and the last mode pass, and estimates of 0, −0 and J
  pub candidate_1_passes : candidate_refusal road_a 1 (whole 0) −0·0 (whole 1000) ≡ passed
  pub candidate_7_passes : candidate_refusal road_a 7 (whole 1000) (whole 0) −0·0 ≡ passed
  -- 257, whose lowest byte would be mode 1, fits the C call's mode alone: its contract gives it 13
  pub welgadou_candidate_13 : {former next : Float} {place number : ℕ}
      → CandidatePredicted road_a 257 (whole 100) (whole 300) (whole 150) former next place number → refused number place ≡ refused 13 0
  pub candidate_14_left : candidate_answer road_a 6 nan nan nan ≡ Refused (refused 14 1)
  pub candidate_14_own : candidate_answer road_a 6 (whole 100) −1·0 −1·0 ≡ Refused (refused 14 2)
  pub candidate_14_right : candidate_answer road_a 6 (whole 100) (whole 300) (whole 1001) ≡ Refused (refused 14 3)
  pub candidate_14_left_below : candidate_answer road_a 6 −1·0 nan (whole 150) ≡ Refused (refused 14 1)
  pub candidate_14_left_above : candidate_answer road_a 6 (inf false) (whole 300) nan ≡ Refused (refused 14 1)
  pub candidate_14_own_nan : candidate_answer road_a 6 (whole 100) nan (whole 1001) ≡ Refused (refused 14 2)
  pub candidate_14_own_above : candidate_answer road_a 6 (whole 100) (whole 1001) −1·0 ≡ Refused (refused 14 2)
  pub candidate_14_right_nan : candidate_answer road_a 6 (whole 100) (whole 300) nan ≡ Refused (refused 14 3)
  pub candidate_14_right_below : candidate_answer road_a 6 (whole 100) (whole 300) −1·0 ≡ Refused (refused 14 3)
  -- word count: cells
  pub count_15 : count_answer 41 ≡ Refused (refused 15 0)
  pub count_40 : count_answer 40 ≡ Done (record { words = 368206551266960 })
  -- station: the reading. 18 applies as well to a NaN, to a zero speed, to an infinite density or flow, and to a density or a speed beside a flow of 80 that is below 0: none has a result in range. To an
  -- infinite lone speed 17 applies as well
  pub station_1 : station_answer road1 (Density (whole 100)) ≡ Refused (refused 1 0)
  pub station_2 : station_answer road2 (Density (whole 100)) ≡ Refused (refused 2 0)
  pub station_3 : station_answer road3 (Density (whole 100)) ≡ Refused (refused 3 0)
  pub station_4 : station_answer road4 (Density (whole 100)) ≡ Refused (refused 4 0)
  pub station_16_infinite : station_answer road_a (FlowAndSpeed (whole 80) (inf false)) ≡ Refused (refused 16 0)
  pub station_16_below_0 : station_answer road_a (FlowAndSpeed −1·0 −1·0) ≡ Refused (refused 16 0)
  pub station_16_no_number : station_answer road_a (Density nan) ≡ Refused (refused 16 0)
  pub station_16_zero_speed : station_answer road_a (FlowAndSpeed (whole 80) (whole 0)) ≡ Refused (refused 16 0)
  pub station_16_flow_nan : station_answer road_a (FlowAndSpeed nan (whole 1)) ≡ Refused (refused 16 0)
  pub station_16_flow_below_0 : station_answer road_a (FlowAndSpeed least_below_0 huge) ≡ Refused (refused 16 0)
  pub station_16_speed_nan : station_answer road_a (Speed nan) ≡ Refused (refused 16 0)
  pub station_16_speed_below_0 : station_answer road_a (Speed least_below_0) ≡ Refused (refused 16 0)
  pub station_16_speed_infinite : station_answer road_a (Speed (inf false)) ≡ Refused (refused 16 0)
  pub station_16_flow_infinite : station_answer road_a (FlowAndSpeed (inf false) (whole 1)) ≡ Refused (refused 16 0)
  pub station_16_beside_nan : station_answer road_a (FlowAndSpeed (whole 80) nan) ≡ Refused (refused 16 0)
  pub station_16_beside_below_0 : station_answer road_a (FlowAndSpeed (whole 80) −1·0) ≡ Refused (refused 16 0)
  pub station_16_beside_minus_0 : station_answer road_a (FlowAndSpeed (whole 80) −0·0) ≡ Refused (refused 16 0)
  pub station_16_density_infinite : station_answer road_a (Density (inf false)) ≡ Refused (refused 16 0)
  pub station_16_density_below_0 : station_answer road_a (Density −1·0) ≡ Refused (refused 16 0)
  pub station_17 : station_answer road_a (Speed four_fifths) ≡ Refused (refused 17 0)
  pub station_17_above : station_answer road_a (Speed (whole 1)) ≡ Refused (refused 17 0)
  -- on D 6, p 5, q 1, J 600, C 100: the greatest double below 5/6, whose product with 6 rounds to 5
  pub station_17_rounded : station_answer (road 6 5 1 600 100) (Speed (of_bits binary64 4605681218924227242)) ≡ Refused (refused 17 0)
  pub station_18 : station_answer road_a (Density (whole 1001)) ≡ Refused (refused 18 0)
  pub station_18_flow : station_answer road_a (FlowAndSpeed (whole 1001) (whole 1)) ≡ Refused (refused 18 0)
  pub station_18_beyond : station_answer road_a (FlowAndSpeed huge (of_bits binary64 1)) ≡ Refused (refused 18 0)
  -- how near the next mode is: cells, the end pair, lengths of the numbers and of the changes
  pub nearest_1 : nearest_answer road1 three 100 0 3 3 ≡ Refused (refused 1 0)
  pub nearest_2 : nearest_answer road2 three 100 0 3 3 ≡ Refused (refused 2 0)
  pub nearest_3 : nearest_answer road3 three 100 0 3 3 ≡ Refused (refused 3 0)
  pub nearest_4 : nearest_answer road4 three 100 0 3 3 ≡ Refused (refused 4 0)
  pub nearest_5 : nearest_answer road_a [] 100 0 0 0 ≡ Refused (refused 5 0)
  pub nearest_8_numbers : nearest_answer road_a three 100 0 4 3 ≡ Refused (refused 8 0)
  pub nearest_8_changes : nearest_answer road_a three 100 0 3 2 ≡ Refused (refused 8 0)
  pub nearest_9 : nearest_answer road_a above 100 0 3 3 ≡ Refused (refused 9 2)
  pub nearest_10 : nearest_answer road_a three 1001 0 3 3 ≡ Refused (refused 10 0)
  pub nearest_11 : nearest_answer road_a three 100 1001 3 3 ≡ Refused (refused 11 0)
