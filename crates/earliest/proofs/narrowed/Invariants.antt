-- `earliest::narrowed` meets its contract. The loop keeps `Copied`: the starts passed are in the row.
use Rattle.earliest.proofs.Widening.{Copied}
use Rattle.earliest.proofs.narrowed.Given as goal

abbrev pub invariant-loop-i : goal.invariant-loop-i
invariant-loop-i l = Copied l.starts l.row l.i
