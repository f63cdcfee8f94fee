-- `mark` meets its contract: the counters of the steps passed went up by one, and no other.
use Rattle.checker.proofs.Marking.{Raised}
use Rattle.checker.proofs.mark.Given as goal

abbrev pub invariant-loop-row : goal.invariant-loop-row
invariant-loop-row l = Raised l.initial.row-items l.kind l.row-items l.row-index
