-- The walk keeps `WalkedBack`: every predecessor behind it is over. The link falls.
use Rattle.edge_links.specs.Linking.{link_of}
use Rattle.edge_links.specs.WalkedBack.{WalkedBack}
use Rattle.list_step.proofs.Clearing.{Clear}
use Rattle.list_step.proofs.is_candidate.Given as goal

abbrev pub invariant-loop-edge : goal.invariant-loop-edge
invariant-loop-edge l = WalkedBack l.order.to.now l.i (Clear l.order.weights.now l.order.from.now l.starts l.step) (link_of l.edge)

abbrev pub decreases-loop-edge : goal.decreases-loop-edge
decreases-loop-edge l = link_of l.edge
