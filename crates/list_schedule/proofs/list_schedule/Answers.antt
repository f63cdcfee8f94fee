-- Each way out is an outcome that the contract allows, by what admission and the schedule left.
use Rattle.std.proofs.lemmas.Result.{err_from_is_err_and}
use Rattle.list_schedule.proofs.Answering.{list_refused, list_even, list_can, list_room, list_given}
use Rattle.list_schedule.proofs.list_schedule.Goals as goal

pub returns-in_err-placed_with_units : goal.returns-in_err-placed_with_units
returns-in_err-placed_with_units c =
    let given = err_from_is_err_and c.from_residual.result c.from_residual.ensures.1 in
    rw (given.1, given.2) (list_refused c.args.graph.now c.args.units.now c.in_err-placed_with_units.ensures)

pub work-requires-clause-sound : goal.work-requires-clause-sound
work-requires-clause-sound c = (list_can c.args.graph.now c.args.units.now c.in_ok-placed_with_units.ensures).sound

pub work-requires-clause-units_len : goal.work-requires-clause-units_len
work-requires-clause-units_len c = list_even c.args.graph.now c.args.units.now c.in_ok-placed_with_units.ensures

pub schedule-row-requires : goal.schedule-row-requires
schedule-row-requires c = rw (c.work.ensures.graph, c.work.ensures.units) (list_can c.args.graph.now c.args.units.now c.in_ok-placed_with_units.ensures)

pub fill-requires-clause-n_in_bounds : goal.fill-requires-clause-n_in_bounds
fill-requires-clause-n_in_bounds c = list_room c.args.graph.now c.args.units.now c.in_ok-placed_with_units.ensures

pub returns : goal.returns
returns c =
    let g = c.args.graph.now in
    list_given g c.args.units.now c.in_ok-placed_with_units.ensures (rw (c.work.ensures.graph, c.work.ensures.units) at c.schedule-row.ensures) (c.latency.ensures g.from.now g.to.now) c.fill.ensures
