-- `cycle::trail` meets its contract: the row of `backs` leads from each kept operation to its lowest kept predecessor, so the walk is the trail.
use Rattle.cycle.proofs.Showing.{stays, trailed}
use Rattle.cycle.proofs.trail.Goals as goal

pub walk-requires : goal.walk-requires
walk-requires c =
    let given = c.requires in
    stays c.args.order.now.closed given.kept_at given.cyclic c.backs-back.ensures c.first_blank.ensures

pub returns : goal.returns
returns c =
    let given = c.requires in
    trailed c.args.order.now.closed given.kept_at given.cyclic c.backs-back.ensures c.first_blank.ensures c.walk.ensures
