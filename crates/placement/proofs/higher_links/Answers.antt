-- The higher ends of all edges are written, and linked.
use Rattle.std.proofs.Common.{subst, List, ℕ, arith}
use Rattle.edge_links.specs.Linking.{Linked}
use Rattle.placement.proofs.HigherEnds.{written_end}
use Rattle.placement.proofs.higher_links.Goals as goal

pub returns : goal.returns
returns c =
    subst (λ (ends : List ℕ). Linked ends c.link.result.row) (written_end c.requires.0.few c.loop-e.invariant (omega arith)) c.link.ensures
