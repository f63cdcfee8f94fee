-- `LinkedOrder::first_step` meets its contract. The loop keeps `WalkingBack`: the edges passed are seen. The link falls.
use Rattle.std.proofs.Common.{arith}
use Rattle.earliest.specs.Widths.{steps_fit}
use Rattle.earliest.proofs.WalkingBack.{back_step}
use Rattle.earliest.proofs.Room.{start_room}
use Rattle.earliest.proofs.WalkingBack.{back_step}
use Rattle.earliest.proofs.LinkedOrder.first_step.Goals as goal

pub overflow_add-end : goal.overflow_add-end
overflow_add-end c =
    omega (arith, start_room c.args.self.now.closed c.requires.part c.from-source.result, steps_fit)

pub loop-edge-preserved : goal.loop-edge-preserved
loop-edge-preserved c =
    let o = c.args.self.now in
    back_step o.closed o.linked c.loop-edge.invariant c.in-Some.is c.before-edge.ensures c.from-source.ensures c.if-start-eq0.false
    (omega arith)
