-- `latest` meets its contract: the start turned round and the delay fit below the bound, so that no difference wraps.
use Rattle.model.specs.Lent.{order_in}
use Rattle.tables.proofs.Reading.{Reading}
use Rattle.tables.proofs.latest.Given as goal

abbrev pub invariant-loop-i : goal.invariant-loop-i
invariant-loop-i l = Reading (order_in l.order) l.bound l.back l.starts l.i
