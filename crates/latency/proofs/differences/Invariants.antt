-- The invariant is the promise itself, of the entries passed.
use Rattle.latency.specs.Differences.{Differences}
use Rattle.latency.proofs.differences.Given as goal

abbrev pub invariant-loop-i : goal.invariant-loop-i
invariant-loop-i l = Differences l.high l.low l.i l.row
