-- The loop keeps the tally of the operations passed: one that runs adds to its type's counter.
use Rattle.std.proofs.Common.{◌<◌, arith, sym, ◌∙◌}
use Rattle.model.specs.Limits as limit
use Rattle.list_step.proofs.CountingByValue.{by_value_none, counter_low, by_value_more, by_value_same}
use Rattle.list_step.proofs.in_use.Goals as goal
use Rattle.list_step.proofs.in_use.Goals.{then-running, else-running}

pub loop-i-init : goal.loop-i-init
loop-i-init c = by_value_none

pub overflow_add-row : goal.overflow_add-row
overflow_add-row c = omega (arith, counter_low c.loop-i.invariant c.from.result (omega (arith, c.requires.each c.loop-i.i (omega arith))))

pub loop-i-preserved : goal.loop-i-preserved
loop-i-preserved c =
    elim c.if-running.branch [
      | then-running w ↦
          let inside : w.from.result < limit.kinds = omega (arith, w.from.ensures, c.requires.each c.loop-i.i (omega arith)) in
          rw w.row-is (by_value_more c.loop-i.invariant w.from.ensures inside (sym c.running.ensures ∙ w.if-running.true))
      | else-running w ↦ rw w.row-is (by_value_same c.loop-i.invariant (sym c.running.ensures ∙ w.if-running.false))
    ]
