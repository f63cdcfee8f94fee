-- `asap` meets its contract: what `placed` refuses, or its starts written over the output.
use Rattle.tables.proofs.Filling.{fill_few, fill_room, asap_refused, asap_done}
use Rattle.tables.proofs.asap.Goals as goal

pub returns-in-Err : goal.returns-in-Err
returns-in-Err c = asap_refused (rw c.in-Err.is at c.placed.ensures)

pub fill-requires-clause-n_le_operations : goal.fill-requires-clause-n_le_operations
fill-requires-clause-n_le_operations c = fill_few (rw c.in-Ok.is at c.placed.ensures)

pub fill-requires-clause-n_in_bounds : goal.fill-requires-clause-n_in_bounds
fill-requires-clause-n_in_bounds c = fill_room (rw c.in-Ok.is at c.placed.ensures)

pub returns-in-Ok : goal.returns-in-Ok
returns-in-Ok c = asap_done (rw c.in-Ok.is at c.placed.ensures) c.fill.ensures
