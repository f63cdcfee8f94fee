-- The operations before i are counted, each by its own mark.
use Rattle.std.proofs.Common.{◌≡◌, ◌≤◌}
use Rattle.unit_use.specs.FirstInUse.{first_in_use}
use Rattle.unit_use.proofs.in_use.Given as goal

abbrev pub invariant-loop-i : goal.invariant-loop-i
invariant-loop-i l = record { is : l.count ≡ first_in_use l.busy l.types l.starts l.kind l.step l.i; few : l.count ≤ l.i }
