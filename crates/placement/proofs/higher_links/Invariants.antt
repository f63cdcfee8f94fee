-- The higher ends of the edges passed are written.
use Rattle.placement.proofs.HigherEnds.{Written}
use Rattle.placement.proofs.higher_links.Given as goal

abbrev pub invariant-loop-e : goal.invariant-loop-e
invariant-loop-e l = Written l.from l.to l.e l.ends
