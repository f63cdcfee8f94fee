-- After each edge the row has the lowest found so far.
use Rattle.std.proofs.Common.{length}
use Rattle.theory.specs.cycle.LowestPredecessors.{Backed}
use Rattle.cycle.specs.Parts.{Blank}
use Rattle.cycle.proofs.backs.Given as goal

abbrev pub invariant-loop-source : goal.invariant-loop-source
invariant-loop-source l = Backed l.order.from.now l.order.to.now (Blank l.starts) l.back (length l.yielded)
