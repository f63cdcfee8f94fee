-- `broken` answers the lowest broken edge: none of those passed is one.
use Rattle.std.proofs.Common.{List, ℕ}
use Rattle.maths.specs.Lowest.{None}
use Rattle.model.specs.Graph.{graph_of}
use Rattle.model.specs.Faults as fault
use Rattle.checker.proofs.broken.Given as goal

abbrev pub invariant-loop-e : goal.invariant-loop-e
invariant-loop-e l = (busy types : List ℕ) (kinds : ℕ) → None (fault.Broken (graph_of l.order.weights.now busy types kinds l.order.from.now l.order.to.now) l.starts) l.e
