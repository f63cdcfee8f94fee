-- `graph_fault` answers by the first of the refusals 1 to 4 that applies: where it comes to a test, the rules before say nothing.
use Rattle.theory.specs.refusals.SoundGraph.{large_says, uneven_says, operation_says, edge_says, shape_silent}
use Rattle.admission.proofs.shape.graph_fault.Goals as goal

pub returns-then-too_large : goal.returns-then-too_large
returns-then-too_large c = large_says _ _ (c.too_large.ensures.yes c.if-too_large.true)

pub returns-then-uneven : goal.returns-then-uneven
returns-then-uneven c =
    uneven_says _ _ (c.too_large.ensures.none c.if-too_large.false) (c.uneven.ensures.yes c.if-uneven.true)

pub returns-in-Some : goal.returns-in-Some
returns-in-Some c =
    operation_says _ _ (c.too_large.ensures.none c.if-too_large.false) (c.uneven.ensures.none c.if-uneven.false) _ (c.in-Some.ensures)

pub returns-in-Some-edge_fault : goal.returns-in-Some-edge_fault
returns-in-Some-edge_fault c =
    edge_says _ _ (c.too_large.ensures.none c.if-too_large.false) (c.uneven.ensures.none c.if-uneven.false) (c.in_default.ensures) _
    (c.in-Some-edge_fault.ensures)

pub returns : goal.returns
returns c =
    shape_silent _ _ (c.too_large.ensures.none c.if-too_large.false) (c.uneven.ensures.none c.if-uneven.false) (c.in_default.ensures)
    (c.in_default-edge_fault.ensures)
