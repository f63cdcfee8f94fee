-- `earliest::by_delays` meets its contract: the weights are the delays, and the starts fit.
use Rattle.earliest.proofs.Widening.{starts_low}
use Rattle.earliest.proofs.by_delays.Goals as goal

pub narrowed-requires : goal.narrowed-requires
narrowed-requires c = starts_low c.args.order.now.closed c.widened-weights.ensures c.earliest-placed.ensures
