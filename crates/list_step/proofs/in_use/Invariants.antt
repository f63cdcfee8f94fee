-- The loop keeps the tally of the operations passed: one adds to its type's counter.
use Rattle.maths.specs.Rows.{at}
use Rattle.list_step.specs.CountsByValue.{CountsByValue}
use Rattle.list_step.specs.Turn.{uses_at}
use Rattle.model.specs.Limits as limit
use Rattle.list_step.proofs.in_use.Given as goal

abbrev pub invariant-loop-i : goal.invariant-loop-i
invariant-loop-i l = CountsByValue (at l.types) (uses_at l.busy l.starts l.step) limit.kinds l.row l.i
