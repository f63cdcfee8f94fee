-- `alap` meets its contract: what `placed_within` refuses, or the latest starts written over the output.
use Rattle.std.proofs.lemmas.Result.{err_from_is_err_and}
use Rattle.tables.proofs.Filling.{latest_closed, latest_low, latest_room, within_few, within_room, within_refused, alap_done}
use Rattle.tables.proofs.alap.Goals as goal

pub returns-in_err-placed_within : goal.returns-in_err-placed_within
returns-in_err-placed_within c =
    let given = err_from_is_err_and c.from_residual.result c.from_residual.ensures.1 in rw (given.1, given.2) (within_refused _ c.in_err-placed_within.ensures)

pub order-requires : goal.order-requires
order-requires c = latest_closed c.in_ok-placed_within.ensures

pub latest-late-requires-clause-bound_le_steps : goal.latest-late-requires-clause-bound_le_steps
latest-late-requires-clause-bound_le_steps c = latest_low c.in_ok-placed_within.ensures

pub latest-late-requires-clause-room_within : goal.latest-late-requires-clause-room_within
latest-late-requires-clause-room_within c = rw c.order.ensures.order (latest_room c.in_ok-placed_within.ensures)

pub fill-requires-clause-n_le_operations : goal.fill-requires-clause-n_le_operations
fill-requires-clause-n_le_operations c = within_few c.in_ok-placed_within.ensures

pub fill-requires-clause-n_in_bounds : goal.fill-requires-clause-n_in_bounds
fill-requires-clause-n_in_bounds c = within_room c.in_ok-placed_within.ensures

pub returns : goal.returns
returns c = alap_done c.in_ok-placed_within.ensures (rw c.order.ensures.order at c.latest-late.ensures) c.fill.ensures
