-- `LinkedOrder::visit` meets its contract: i is placed, or it waits, or it gets its first step.
use Rattle.earliest.proofs.Sweep.{visit_set}
use Rattle.earliest.proofs.LinkedOrder.visit.Goals as goal

pub returns : goal.returns
returns c = visit_set c.args.self.now.closed c.requires.part c.requires.i_in_bounds c.if-starts-i-ne0.false c.in-Some.ensures
