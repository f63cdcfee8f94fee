-- `earliest::widened` meets its contract. The loop keeps `Copied`: the delays passed are in the row.
use Rattle.earliest.proofs.Widening.{Copied}
use Rattle.earliest.proofs.widened.Given as goal

abbrev pub invariant-loop-i : goal.invariant-loop-i
invariant-loop-i l = Copied l.delays l.row l.i
