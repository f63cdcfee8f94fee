-- `graph_unit_fault` answers by the first of the refusals 1 to 4 and 6 that applies: what the first four say, or else the sixth.
use Rattle.std.proofs.lemmas.Result.{err_from_is_err_and}
use Rattle.theory.specs.refusals.FirstRefusal.{first_hit, first_pass}
use Rattle.admission.proofs.Manned.{manned}
use Rattle.admission.proofs.shape.graph_unit_fault.Goals as goal

pub returns-in_err-graph_fault : goal.returns-in_err-graph_fault
returns-in_err-graph_fault c =
    let given = err_from_is_err_and c.from_residual.result c.from_residual.ensures.1 in rw (given.1, given.2) (first_hit _ _ _ c.in_err-graph_fault.ensures)

pub unit_fault-requires-clause-sound : goal.unit_fault-requires-clause-sound
unit_fault-requires-clause-sound c = (manned _ c.args.units.now _ c.requires c.in_ok-graph_fault.ensures).0

pub unit_fault-requires-clause-units_len : goal.unit_fault-requires-clause-units_len
unit_fault-requires-clause-units_len c = (manned _ c.args.units.now _ c.requires c.in_ok-graph_fault.ensures).1

pub returns : goal.returns
returns c = first_pass _ _ _ c.in_ok-graph_fault.ensures c.unit_fault.ensures
