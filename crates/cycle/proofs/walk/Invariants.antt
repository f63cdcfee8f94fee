-- What is met is all different, since each has its place marked; the marks run out, so one comes again.
use Rattle.std.proofs.Common.{◌≡◌, ◌-◌, ◌<◌}
use Rattle.maths.specs.Rows.{at}
use Rattle.theory.specs.cycle.WalkUntilMetAgain.{Walking}
use Rattle.model.specs.Limits as limit
use Rattle.cycle.proofs.walk.Given as goal

abbrev pub invariant-loop-places : goal.invariant-loop-places
invariant-loop-places l = record {
  inside : l.here < limit.operations;
  room : at l.places l.here ≡ 0 → l.count < limit.operations;
  walking : Walking l.back l.first l.met l.places l.count l.here;
}

abbrev pub decreases-loop-places : goal.decreases-loop-places
decreases-loop-places l = limit.operations - l.count
