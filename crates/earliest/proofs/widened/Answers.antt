-- `earliest::widened` meets its contract. The loop keeps `Copied`: the delays passed are in the row.
use Rattle.std.proofs.Common.{arith}
use Rattle.earliest.proofs.Widening.{copied_none, copied_short}
use Rattle.earliest.proofs.widened.Goals as goal

pub loop-i-init : goal.loop-i-init
loop-i-init c = copied_none

pub returns : goal.returns
returns c = copied_short c.requires (omega arith) c.loop-i.invariant
