-- `place` meets its contract: the two outcomes of `by_delays` are the two of refusal 7.
use Rattle.theory.specs.order.PlacingOutcome.{placing_cyclic}
use Rattle.admission.proofs.Trying.{kept_at, tried_done, tried_shown}
use Rattle.admission.proofs.precedence.place.Goals as goal

pub returns-then-placed-order : goal.returns-then-placed-order
returns-then-placed-order c = tried_done c.args.order.now.closed c.by_delays-placed.ensures _ c.if-placed-order.true

pub show-requires-clause-kept_at : goal.show-requires-clause-kept_at
show-requires-clause-kept_at c = kept_at c.args.order.now.closed c.by_delays-placed.ensures

pub show-requires-clause-cyclic : goal.show-requires-clause-cyclic
show-requires-clause-cyclic c = placing_cyclic c.args.order.now.closed c.by_delays-placed.ensures c.if-placed-order.false

pub returns : goal.returns
returns c = tried_shown c.show.ensures
