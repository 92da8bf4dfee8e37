-- The starred cases hold: each is computed from the definitions.
use mathlib.Core.Path.{refl}
use Rattle.refusal.specs.Table.{or_if}
use Rattle.road.specs.Judgement.{road_refusal}
use Rattle.flux.specs.Face.{sending, receiving, numerator, units, scaled, in_w, in_l, letter}
use Rattle.checks.specs.Values.{first_index_above}
use Rattle.scheme.specs.Advance.{ahead, advance, outflow, entering, leaving, stepped}
use Rattle.scheme.specs.Sums.{same_list}
use Rattle.scheme.specs.Word.{word_of}
use Rattle.scheme.specs.Runs.{iterated}
use Rattle.scheme.specs.Rounded.{round_run, entered, left}
use Rattle.scheme.specs.Settling.{still, settles, settle_steps, settle_cells}
use Rattle.forecast.specs.Forecast.{forecast_refusal, forecast_answer, forecast_cells}
use Rattle.forecast.specs.Settle.{settle_refusal, settle_answer, settle_output}
use Rattle.modes.specs.Modes.{mode_of, modes_of}
use Rattle.rows.specs.Rows.{row_table, row_of, terms, dot, row_value, row_numerators}
use Rattle.words.specs.Words.{illegal_pair, offends, first_offence, legal}
use Rattle.counting.specs.WordCount.{turned, word_count}
use Rattle.modes.specs.Judging.{read_refusal}
use Rattle.rows.specs.Judging.{predict_refusal}
use Rattle.modes.specs.Reading.{read_letters, read_modes}
use Rattle.rows.specs.Prediction.{predicted}
use Rattle.counting.specs.Count.{count_refusal, count_answer}
use Rattle.commission.specs.Starred.{Starred}

pub starred : Starred
unfolding sending receiving numerator units scaled in_w in_l letter or_if road_refusal first_index_above ahead advance outflow entering leaving stepped word_of round_run entered left same_list iterated still settles settle_steps settle_cells forecast_refusal forecast_answer forecast_cells settle_refusal settle_answer settle_output mode_of modes_of row_table row_of terms dot row_value row_numerators illegal_pair offends first_offence legal turned word_count read_refusal predict_refusal read_letters read_modes predicted count_refusal count_answer
starred = record {
  letter_200_200 = refl;
  units_200_200 = refl;
  letter_200_201 = refl;
  units_200_201 = refl;
  letter_201_200 = refl;
  units_201_200 = refl;
  letter_100_600 = refl;
  units_100_600 = refl;
  letter_100_601 = refl;
  units_100_601 = refl;
  letter_0_1000 = refl;
  units_0_1000 = refl;
  letter_1_1000 = refl;
  units_1_1000 = refl;
  one_cell = refl;
  one_entered = refl;
  one_left = refl;
  one_exact = refl;
  three_letters_are = refl;
  three_cells = refl;
  three_entered = refl;
  three_left = refl;
  settled = refl;
  settled_steps = refl;
  settled_cell = refl;
  three_modes_are = refl;
  three_numerators = refl;
  foreign_numerator = refl;
  count_0 = refl;
  count_1 = refl;
  count_2 = refl;
}
