-- `pedal_advance` says the advance of the lent state, and leaves its starts in the row.
use Rattle.pedal.proofs.Moving.{no_state_said, state_said}
use Rattle.pedal.proofs.pedal_advance.Goals as goal

pub returns-then-starts-ne-OPERATIONS : goal.returns-then-starts-ne-OPERATIONS
returns-then-starts-ne-OPERATIONS c = no_state_said c.graph.result c.if-starts-ne-OPERATIONS.true c.graph.ensures c.refusal_in-refusal.ensures

pub returns : goal.returns
returns c =
    rw c.copy_from_slice-2.ensures.after
    (state_said c.advance.result c.if-starts-ne-OPERATIONS.false c.copy_from_slice.ensures.after c.advance.ensures c.refusal_in-refusal-2.ensures)
