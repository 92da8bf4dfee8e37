-- `forecast::forecast` meets its contract: refused by the checks before 19, nothing is written; where 19 may hold, the run is made aside; else in the output.
use Rattle.std.proofs.Common.{arith}
use Rattle.forecast.proofs.Answers.{forecast_err}
use Rattle.forecast.proofs.Calling.{input_forecasts, output_long, sums_fit, done_with_room}
use Rattle.forecast.proofs.forecasting.forecast.Goals as goal

pub returns-in_err-input : goal.returns-in_err-input
returns-in_err-input c =
    let a = c.args in
    forecast_err a.road a.caps.now a.cells.now a.upstream.now a.downstream.now a.horizon a.out.now a.totals c.in_err-input.field-0.0 c.from_residual.result c.from_residual.ensures.1
    c.in_err-input.ensures.refusal

pub forecast_aside-requires : goal.forecast_aside-requires
forecast_aside-requires c = output_long c.in_ok-input.ensures.input c.args.out.now c.in_ok-input.ensures.refusal

pub returns-then-is_none : goal.returns-then-is_none
returns-then-is_none c = input_forecasts c.in_ok-input.ensures.input c.forecast_aside.ensures

pub run_in-own-requires : goal.run_in-own-requires
run_in-own-requires c = output_long c.in_ok-input.ensures.input c.args.out.now c.in_ok-input.ensures.refusal

pub returns : goal.returns
returns c =
    done_with_room c.in_ok-input.ensures.input c.args.out.now c.in_ok-input.ensures.refusal c.run_in-own.ensures c.args.totals c.increased.result c.increased.ensures c.if-is_none.ensures

pub overflow_add-entered : goal.overflow_add-entered
overflow_add-entered c =
    omega (arith, (sums_fit c.in_ok-input.ensures.input c.args.out.now c.in_ok-input.ensures.refusal c.run_in-own.ensures c.args.totals c.increased.result c.increased.ensures c.if-is_none.ensures).entered_fits)

pub overflow_add-left : goal.overflow_add-left
overflow_add-left c =
    omega (arith, (sums_fit c.in_ok-input.ensures.input c.args.out.now c.in_ok-input.ensures.refusal c.run_in-own.ensures c.args.totals c.increased.result c.increased.ensures c.if-is_none.ensures).left_fits)
