-- `edge_fault` answers the lowest bad edge: none of those passed is bad.
use Rattle.maths.specs.Lowest.{None}
use Rattle.model.specs.Lent.{graph_in}
use Rattle.model.specs.Refusals.{BadEdge}
use Rattle.admission.proofs.shape.edge_fault.Given as goal

abbrev pub invariant-loop-e : goal.invariant-loop-e
invariant-loop-e l = None (BadEdge (graph_in l.graph)) l.e
