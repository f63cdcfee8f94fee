-- `LinkedOrder::first_step` meets its contract. The loop keeps `WalkingBack`: the edges passed are seen. The link falls.
use Rattle.edge_links.specs.Linking.{link_of}
use Rattle.earliest.specs.Linked.{order_of}
use Rattle.earliest.proofs.WalkingBack.{WalkingBack}
use Rattle.earliest.proofs.LinkedOrder.first_step.Given as goal

abbrev pub invariant-loop-edge : goal.invariant-loop-edge
invariant-loop-edge l = WalkingBack (order_of l.self) l.starts l.i l.step l.edge

abbrev pub decreases-loop-edge : goal.decreases-loop-edge
decreases-loop-edge l = link_of l.edge
