-- `earliest::earliest` meets its contract. The loop keeps `RoundsSoFar`: a part is placed and counted. What is not placed yet falls.
use Rattle.std.proofs.Common.{arith}
use Rattle.earliest.proofs.Rounds.{rounds_none, rounds_few, rounds_stuck, rounds_full}
use Rattle.earliest.proofs.earliest.Goals as goal
use Rattle.earliest.proofs.earliest.Goals.{then-placed-eq0-via-then-placed-eq0, then-placed-eq0-via-else-placed-eq0+then-total-weights}

pub loop-order-init : goal.loop-order-init
loop-order-init c = rounds_none

pub overflow_add-total : goal.overflow_add-total
overflow_add-total c = omega (arith, rounds_few c.loop-order.invariant c.round-placed.ensures, c.requires.few)

pub returns-then-placed-eq0 : goal.returns-then-placed-eq0
returns-then-placed-eq0 c =
    let h = c.loop-order.invariant in
    let k = c.round-placed.ensures in
    elim c.then-placed-eq0.branch [
      | then-placed-eq0-via-then-placed-eq0 w ↦ rounds_stuck h k w.if-placed-eq0.true
      | then-placed-eq0-via-else-placed-eq0+then-total-weights w ↦ rounds_full h k w.if-total-weights.true
    ]

pub loop-order-smaller : goal.loop-order-smaller
loop-order-smaller c = omega (arith, rounds_few c.loop-order.invariant c.round-placed.ensures)
