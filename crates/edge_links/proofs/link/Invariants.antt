-- The loop keeps `Linking`: the edges passed are linked.
use Rattle.edge_links.proofs.Steps.{Linking}
use Rattle.edge_links.proofs.link.Given as goal

abbrev pub invariant-loop-e : goal.invariant-loop-e
invariant-loop-e l = Linking l.ends l.e l.row
