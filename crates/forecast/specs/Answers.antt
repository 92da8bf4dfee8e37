-- What the public calls answer: what they hand back, or the refusal.
use Rattle.refusal.specs.Answer.{Answer}
use Rattle.scheme.specs.declared.settling.Settled.{Settled}
use Rattle.forecast.specs.declared.forecasting.Record.{Record}

abbrev pub ForecastAnswer : Type 0
ForecastAnswer = Answer Record

abbrev pub SettleAnswer : Type 0
SettleAnswer = Answer Settled
