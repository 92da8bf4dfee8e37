-- The commission is met: what it says of calls from the public contracts, what it says of definitions (the modes' table, still, open caps, parts, room) by their laws.
use mathlib.Core.Path.{◌∙◌, refl, ap, subst}
use mathlib.Core.List.{List}
use Prim.Native.Nat.{ℕ}
use Rattle.refusal.specs.Table.{Among, falling}
use Rattle.scheme.specs.declared.many_steps.Totals.{Totals}
use Rattle.scheme.proofs.Faces.{still_means}
use Rattle.scheme.proofs.Open.{open_moves, open_flows}
use Rattle.scheme.specs.Sums.{gap, distance, times}
use Rattle.station.specs.Station.{speed_density, estimate_of}
use Rattle.forecast.proofs.Room.{room_left}
use Rattle.modes.specs.declared.reading.Counts.{Counts}
use Rattle.modes.specs.Reading.{counts_of}
use Rattle.rows.proofs.SevenModes.{seven_modes}
use Rattle.commission.specs.Outcome.{Outcome}
use Rattle.commission.specs.Calls.{Called, forecast, settle, read, fit, predict, candidate, count, station, nearest}
use Rattle.commission.specs.Commission.{Demand1, Demand2, Demand3, SinceCommissioning, Commission}
use Rattle.commission.proofs.Told.{Told}
use Rattle.commission.proofs.ForecastCall.{forecast_told, forecast_says, forecast_feeds, parts_say, whole_parts_say, chain_balances}
use Rattle.commission.proofs.SettleCall.{settle_told, settling_says, settling_feeds}
use Rattle.commission.proofs.ReadCall.{read_told, reading_says}
use Rattle.commission.proofs.FitCall.{fit_told, fit_says}
use Rattle.commission.proofs.PredictCall.{predict_told, rows_say}
use Rattle.commission.proofs.CandidateCall.{candidate_told, candidate_equals, candidate_row, whole_says, plain_says}
use Rattle.commission.proofs.CountCall.{count_told, count_says}
use Rattle.commission.proofs.StationCall.{station_told, station_says, lone_says, lone_never_18}
use Rattle.commission.proofs.Faces.{face_by_face}
use Rattle.commission.proofs.NearestCall.{nearest_told, ranking_says, ranking_equals, change_says}

call_told : (o : Outcome) → Called o → Told o
call_told o (forecast c) = forecast_told o c
call_told o (settle c) = settle_told o c
call_told o (read c) = read_told o c
call_told o (fit c) = fit_told o c
call_told o (predict c) = predict_told o c
call_told o (candidate c) = candidate_told o c
call_told o (count c) = count_told o c
call_told o (station c) = station_told o c
call_told o (nearest c) = nearest_told o c

demand1 : Demand1
demand1 = record {
  judges = λ o c. (call_told o c).judged.accepted;
  first = λ o c. (call_told o c).judged.first.fits;
  returned = λ o c. (call_told o c).judged.first.found;
  named = λ o c. (call_told o c).named;
  numbers = λ o c. (call_told o c).numbers;
  lowest = λ o c rises. ((call_told o c).judged.lowest rises).lowest;
  lower_after = λ o c number place a low.
      subst (λ (ns : List ℕ). Among (o.refusal.number, number) (falling ns)) (call_told o c).numbers ((call_told o c).judged.lower_after number place a low);
  forecast_falls = refl;
  settle_falls = refl;
  rise = λ o c. (call_told o c).rise;
  place = λ o c. (call_told o c).judged.placed;
  table = λ o c. (call_told o c).table;
  no_other = λ o c. (call_told o c).judged.no_other;
  made = λ o c. (call_told o c).made;
  kept = λ o c. (call_told o c).kept;
}

demand2 : Demand2
unfolding counts_of speed_density estimate_of
demand2 = record {
  flow_w = λ x c k h. ((reading_says x c).flow k h).W;
  flow_l = λ x c k h. ((reading_says x c).flow k h).L;
  flow_d = λ x c k h. ((reading_says x c).flow k h).D;
  table = seven_modes;
  modes = λ x c. ((reading_says x c).moded, (reading_says x c).modes_long);
  one_of_seven = λ x c. (reading_says x c).numbered;
  rows = λ x c. ((rows_say x c).written, (rows_say x c).long);
  letter_w_exactly = λ x c k h. ((reading_says x c).lettered k h).W;
  letter_l_exactly = λ x c k h. ((reading_says x c).lettered k h).L;
  letter_d_exactly = λ x c k h. ((reading_says x c).lettered k h).D;
  one_of_three = λ x c k h. ((reading_says x c).lettered k h).known;
  letters = λ x c. (reading_says x c).own.long;
  compared_w = λ x c k h. ((fit_says x c).lettered k h).W;
  compared_l = λ x c k h. ((fit_says x c).lettered k h).L;
  compared_d = λ x c k h. ((fit_says x c).lettered k h).D;
  steps = λ x c. (forecast_says x c).by_faces;
  settling_steps = λ x c. (settling_says x c).by_faces;
  spelled_out = face_by_face;
  own_rows_give = λ x c e caps k h left right. ((rows_say x c).own e).exact caps k h (record { left = left; right = right });
  own_rows_exact = λ x c e. ((rows_say x c).own e).exact_step_on;
  own_rows_near = λ x c e caps k h left right. ((rows_say x c).own e).near caps k h (record { left = left; right = right });
  own_rows_open = λ x c e. ((rows_say x c).own e).plain;
  own_rows_open_near = λ x c e. ((rows_say x c).own e).plain_near;
  open_caps_move = open_moves;
  open_caps_exact = open_flows;
  entered = λ x c. (forecast_says x c).in_sum;
  left = λ x c. (forecast_says x c).out_sum;
  still_next = λ x c e. let s = settling_says x c in (s.least.within e, rw s.state (s.least.found e));
  none_still = λ x c. (settling_says x c).least.none;
  none_before = λ x c. (settling_says x c).least.before;
  settled_state = λ x c. (settling_says x c).state;
  settled_within = λ x c. ((settling_says x c).long, (settling_says x c).within);
  still_means = still_means;
  full = λ x c. (settling_says x c).full;
  full_done = λ x c. (settling_says x c).full_done;
  flag_yes = refl;
  flag_no = refl;
  fits = λ x c. (fit_says x c).all;
  no_misfit = λ x c. (fit_says x c).no_face;
  misfit = λ x c e. let m = (fit_says x c).lowest e in (m.inside, m.differs, m.lower);
  own_word_is = λ x c. ((reading_says x c).word, (reading_says x c).own.allowed);
  own_holds = λ x c word. let own = (reading_says x c).own in (own.only word, λ e. rw e own.fits);
  own_fits = λ x c. (reading_says x c).fit;
  only_fits = λ x c. (reading_says x c).fit_only;
  counts = λ x c. ap (λ (k : Counts). k.modes) (reading_says x c).counted;
  counts_sum = λ x c. (reading_says x c).counts_sum;
  queued = λ x c. (reading_says x c).queued;
  signs = λ x c. let s = (reading_says x c).signs in (s.least, s.most);
  words = λ x c. ((count_says x c).0, (count_says x c).1.number);
  words_every = λ x c. (count_says x c).1.every;
  words_only = λ x c. (count_says x c).1.only;
  words_once = λ x c. (count_says x c).1.once;
  words_occur = λ x c low word long allowed r ok. let o = (count_says x c).1.occurs low word long allowed r ok in (o.own, o.checked, o.written);
  word_occurs = λ x c. let o = (rows_say x c).occurs in (o.own, o.checked, o.written);
  candidate = λ x c. (candidate_equals x c).0;
  candidate_row = λ x c. let w = candidate_row x c in (w.left, w.own, w.right, w.constant);
  estimates = λ x c. let k = (candidate_equals x c).1 in (k.left_finite, k.own_finite, k.right_finite);
  candidate_whole = whole_says;
  candidate_plain = plain_says;
  station_density = λ x c d e. (station_says x c).0 ∙ ap (estimate_of x.road) e;
  station_flow = λ x c f s e. (station_says x c).0 ∙ ap (estimate_of x.road) e;
  station_speed = λ x c s e. (station_says x c).0 ∙ ap (estimate_of x.road) e;
  station = station_says;
  station_speed_range = lone_says;
  station_speed_never_18 = lone_never_18;
  next_modes = ranking_equals;
  nearest_change = change_says;
  nearest_long = λ x c. ((ranking_says x c).numbers_long, (ranking_says x c).changes_long);
  nearest_every = λ x c. (ranking_says x c).complete;
  nearest_once = λ x c. (ranking_says x c).once;
  nearest_ordered = λ x c k m h l. ((ranking_says x c).ordered k m h l, (ranking_says x c).by_cell k m h l);
}

demand3 : Demand3
unfolding gap distance times
demand3 = record {
  pairs = λ x c. let d = (forecast_says x c).demand3 in (d.ups_long, d.downs_long);
  caps = λ x c. (forecast_says x c).caps_long;
  densities = λ x c. let d = (forecast_says x c).demand3 in (d.after_steps, d.long);
  within = λ x c. (forecast_says x c).demand3.within;
  balanced = λ x c. (forecast_says x c).demand3.balanced;
  distance_none = refl;
  distance_adds = λ a b xs ys. refl;
  times_none = λ k. refl;
  times_each = λ k x xs. refl;
  near = λ x c. (forecast_says x c).demand3.near;
  parts = parts_say;
  whole = whole_parts_say;
  exact_cells = λ x c. (forecast_says x c).demand3.exact_long;
  exact_steps = λ x c. (forecast_says x c).demand3.exact_steps;
}

since_commissioning : SinceCommissioning
since_commissioning = record {
  increased = λ x c. let t = (forecast_says x c).carried in (ap (λ (t : Totals). t.entered) t, ap (λ (t : Totals). t.left) t);
  largest = λ x c. let s = forecast_says x c in (
    rw (s.carried, s.in_sum) s.fits.entered_fits,
    rw (s.carried, s.out_sum) s.fits.left_fits,
  );
  feeds = forecast_feeds;
  settling_feeds = settling_feeds;
  room = room_left;
  chain = chain_balances;
}

pub commission : Commission
commission = record { demand1 = demand1; demand2 = demand2; demand3 = demand3; totals = since_commissioning }
