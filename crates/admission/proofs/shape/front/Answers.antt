-- `front` answers by the first of the refusals 1 to 5 that applies: what the first four say, or else the fifth.
use Rattle.std.proofs.Common.{arith}
use Rattle.std.proofs.lemmas.Result.{err_from_is_err_and}
use Rattle.theory.specs.refusals.FirstRefusal.{first_hit, first_pass, first_says, first_silent, first_end, flat_says, flat_silent}
use Rattle.admission.proofs.shape.front.Goals as goal

pub returns-in_err-graph_fault : goal.returns-in_err-graph_fault
returns-in_err-graph_fault c =
    let given = err_from_is_err_and c.from_residual.result c.from_residual.ensures.1 in rw (given.1, given.2) (first_hit _ _ _ (c.in_err-graph_fault.ensures))

pub returns-then-room-graph : goal.returns-then-room-graph
returns-then-room-graph c =
    first_pass _ _ _ (c.in_ok-graph_fault.ensures) (first_says _ _ 5 0 (flat_says 5 _ c.if-room-graph.true))

pub returns : goal.returns
returns c =
    first_pass _ _ _ (c.in_ok-graph_fault.ensures) (first_silent _ _ _ (flat_silent 5 _ (λ l. omega arith)) first_end)
