-- `latest` meets its contract: the start turned round and the delay fit below the bound, so that no difference wraps.
use Rattle.std.proofs.Common.{◌+◌, ◌≤◌, arith}
use Rattle.maths.specs.Rows.{at}
use Rattle.tables.proofs.Reading.{reading_none, reading_step, reading_end, turned_fits}
use Rattle.tables.proofs.latest.Goals as goal
use Rattle.tables.proofs.latest.Goals.{In-loop-i}

-- the start turned round and the delay fit below the bound
fits : (c : In-loop-i) → at c.by_delays.new.starts c.loop-i.i + at c.args.order.now.weights.now c.loop-i.i ≤ c.args.bound + 1
fits c = turned_fits c.args.order.now.closed c.requires.room_within (rw c.turned-turned.ensures.order at c.by_delays.ensures) c.loop-i.i c.loop-i-test.true

pub overflow_sub-starts-in-loop-i : goal.overflow_sub-starts-in-loop-i
overflow_sub-starts-in-loop-i c = omega (arith, fits (goal.at.overflow_sub-starts-in-loop-i c).In-loop-i)

pub loop-i-preserved : goal.loop-i-preserved
loop-i-preserved c = reading_step c.args.order.now.closed c.loop-i.invariant c.loop-i-test.true

pub returns : goal.returns
returns c = reading_end c.args.order.now.closed c.requires.room_within (rw c.turned-turned.ensures.order at c.by_delays.ensures) c.loop-i.invariant c.loop-i-test.false

pub loop-i-init : goal.loop-i-init
loop-i-init c = reading_none
