-- What is placed is no candidate; nor is what an operation enters that is not over; else all have been passed, and it is one.
use Rattle.model.specs.Graph.{graph_of}
use Rattle.list_step.proofs.Clearing.{placed_no_candidate, held_none, cleared}
use Rattle.list_step.proofs.is_candidate.Goals as goal

pub returns-then-starts-i-ne0 : goal.returns-then-starts-i-ne0
returns-then-starts-i-ne0 c = λ busy types kinds. placed_no_candidate _ _ _ _ c.if-starts-i-ne0.true

pub returns-then-not-finished : goal.returns-then-not-finished
returns-then-not-finished c =
    let o = c.args.order.now in
    λ busy types kinds.
    held_none (graph_of o.weights.now busy types kinds o.from.now o.to.now) c.args.starts.now c.args.step c.args.i o.closed.even c.loop-edge.invariant c.in-Some.is
    (λ h. rw c.from-source.ensures at c.finished.ensures.none c.if-not-finished.true (h.placed, h.ended))

pub returns : goal.returns
returns c =
    let o = c.args.order.now in
    λ busy types kinds.
    cleared (graph_of o.weights.now busy types kinds o.from.now o.to.now) c.args.starts.now c.args.step c.args.i o.closed.even c.loop-edge.invariant c.if-starts-i-ne0.false c.in_default.is
