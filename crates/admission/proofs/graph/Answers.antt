-- `graph` meets its contract: what refusals 1 to 4 say, or else the seventh.
use Rattle.std.proofs.lemmas.Result.{err_from_is_err_and}
use Rattle.theory.specs.refusals.FirstRefusal.{first_hit, first_pass}
use Rattle.theory.specs.refusals.SoundGraph.{closed}
use Rattle.admission.specs.AdmissionLaws.{passed_sound}
use Rattle.admission.proofs.graph.Goals as goal

pub returns-in_err-graph_fault : goal.returns-in_err-graph_fault
returns-in_err-graph_fault c =
    let given = err_from_is_err_and c.from_residual.result c.from_residual.ensures.1 in rw (given.1, given.2) (first_hit _ _ _ c.in_err-graph_fault.ensures)

pub order-requires : goal.order-requires
order-requires c = closed _ (passed_sound _ _ _ c.in_ok-graph_fault.ensures)

pub returns : goal.returns
returns c = first_pass _ _ _ c.in_ok-graph_fault.ensures (rw c.order.ensures.order at c.cycle_fault.ensures)
