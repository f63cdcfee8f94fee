-- `LinkedOrder::round` meets its contract. The loop keeps `Sweep`: where none is placed, those visited wait.
use Rattle.std.proofs.Common.{length, arith}
use Rattle.maths.specs.Count.{marks_le}
use Rattle.earliest.proofs.Sweep.{sweep_end}
use Rattle.earliest.proofs.LinkedOrder.round.Goals as goal

pub overflow_add-placed : goal.overflow_add-placed
overflow_add-placed c =
    let o = c.args.self.now in
    omega (arith, c.visit.ensures.counts, c.from-placed.ensures, marks_le c.visit.new.starts (length o.weights.now), o.closed.few)

pub returns : goal.returns
returns c = sweep_end c.loop-k.invariant (omega arith)
