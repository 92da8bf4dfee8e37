-- `flux::Pace::flow` meets its contract: both parts are the units of what is sent and received, the cap is cut at the capacity, and all three numbers are small.
use Rattle.std.proofs.Common.{◌-◌, arith}
use native.Mathlib.Nat.{le_trans}
use Rattle.flux.proofs.Multiplier.{send_small, receive_small, capacity_small, paced_flow}
use Rattle.flux.proofs.pace.Pace.flow.Goals as goal

pub least-requires-clause-a_bound : goal.least-requires-clause-a_bound
least-requires-clause-a_bound c =
    let p = c.args.self in
    omega (arith, c.part-sent.ensures, send_small p c.args.a (le_trans c.requires.a_le_jam p.road.accepted.jam_high))

pub least-requires-clause-b_bound : goal.least-requires-clause-b_bound
least-requires-clause-b_bound c =
    let p = c.args.self in
    omega (
      arith,
      c.part-received.ensures,
      receive_small p (p.road.road.jam - c.args.b) (let j = p.road.accepted.jam_high in omega arith),
    )

pub least-requires-2-clause-a_bound : goal.least-requires-2-clause-a_bound
least-requires-2-clause-a_bound c =
    let p = c.args.self in
    omega (
      arith,
      c.least.ensures,
      c.part-sent.ensures,
      send_small p c.args.a (le_trans c.requires.a_le_jam p.road.accepted.jam_high),
    )

pub least-requires-2-clause-b_bound : goal.least-requires-2-clause-b_bound
least-requires-2-clause-b_bound c = omega (arith, c.min-most.ensures, capacity_small c.args.self)

-- the least of what is sent, what is received, the cap and the capacity
pub returns : goal.returns
returns c =
    omega (
      arith,
      c.least-2.ensures,
      c.least.ensures,
      c.min-most.ensures,
      c.part-received.ensures,
      c.part-sent.ensures,
      paced_flow c.args.self c.args.a c.args.b c.requires.a_le_jam,
    )
