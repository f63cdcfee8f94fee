-- `mark` meets its contract: the counters of the steps passed went up by one, and no other.
use Rattle.std.proofs.Common.{arith}
use Rattle.checker.proofs.Marking.{marked_rows}
use Rattle.checker.proofs.mark.Goals as goal

pub returns : goal.returns
returns c = marked_rows c.requires (omega arith) c.loop-row.invariant c.loop-row.auto.row-items (omega arith)
