-- `operation_fault` answers the lowest bad operation: none of those passed is bad.
use Rattle.maths.specs.Lowest.{None}
use Rattle.model.specs.Lent.{graph_in}
use Rattle.model.specs.Refusals.{BadOperation}
use Rattle.admission.proofs.shape.operation_fault.Given as goal

abbrev pub invariant-loop-i : goal.invariant-loop-i
invariant-loop-i l = None (BadOperation (graph_in l.graph)) l.i
