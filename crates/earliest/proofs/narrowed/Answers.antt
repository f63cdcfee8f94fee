-- `earliest::narrowed` meets its contract. The loop keeps `Copied`: the starts passed are in the row.
use Rattle.std.proofs.Common.{arith}
use Rattle.earliest.proofs.Widening.{copied_none, copied_whole}
use Rattle.earliest.proofs.narrowed.Goals as goal

pub loop-i-init : goal.loop-i-init
loop-i-init c = copied_none

pub returns : goal.returns
returns c = copied_whole (omega arith) c.loop-i-test.false c.loop-i.invariant
