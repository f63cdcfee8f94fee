-- Refusals 7, 8 and 9 each say one thing, and 7 writes one row.
use Rattle.std.specs.Prelude.{ℕ, ◌<◌}
use Rattle.model.specs.Limits as limit
use Rattle.model.specs.Order.{Order}
use Rattle.model.specs.Cycle.{Shown}
use Rattle.model.specs.Refusals.{Late, cyclic, large_bound, late_bound}
use Rattle.theory.specs.cycle.OneShown.{shown_one}
use Rattle.theory.specs.refusals.OneRefusal.{Ones, ones_single, flat_one}
use Rattle.theory.specs.refusals.RowAfterwards.{fills_one}

-- ---- the checks say one thing each
pub cyclic_ones : (o : Order) → Ones (cyclic o)
cyclic_ones o =
    ones_single _
    (record {
      once = λ before a b. fills_one (Shown o) before a b (shown_one o);
      same = λ n p m q a b. rw (a.is, b.is, a.long, b.long, shown_one o a.cycle b.cycle a.shown b.shown);
    })

pub large_bound_ones : (bound : ℕ) → Ones (large_bound bound)
large_bound_ones bound = ones_single _ (flat_one 8 (limit.steps < bound))

pub late_bound_ones : (o : Order) (bound : ℕ) → Ones (late_bound o bound)
late_bound_ones o bound = ones_single _ (flat_one 9 (Late o bound))
