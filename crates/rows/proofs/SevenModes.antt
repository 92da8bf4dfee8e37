-- The printed table of the seven modes is the definitions': each line is computed.
use mathlib.Core.Path.{refl}
use Rattle.modes.specs.Modes.{mode_of}
use Rattle.rows.specs.Rows.{row_table, row_of, terms, row_value}
use Rattle.rows.specs.SevenModes.{SevenModes}

pub seven_modes : SevenModes
unfolding mode_of row_table row_of terms row_value
seven_modes = record {
  mode_1 = (refl, refl);
  mode_2 = (refl, refl);
  mode_3 = (refl, refl);
  mode_4 = (refl, refl);
  mode_5 = (refl, refl);
  mode_6 = (refl, refl);
  mode_7 = (refl, refl);
  seven = refl;
  columns = λ r left own right. refl;
  value = λ r mode left own right. refl;
}
