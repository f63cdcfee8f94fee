-- The loop keeps `Linking`: the edges passed are linked.
use Rattle.edge_links.proofs.Steps.{linking_none, linking_step, linking_end}
use Rattle.edge_links.proofs.link.Goals as goal

pub loop-e-init : goal.loop-e-init
loop-e-init c = linking_none

pub loop-e-preserved : goal.loop-e-preserved
loop-e-preserved c = rw c.from-end.ensures (linking_step c.requires c.loop-e.invariant c.loop-e-test.true)

pub returns : goal.returns
returns c = linking_end c.loop-e.invariant c.loop-e-test.false
