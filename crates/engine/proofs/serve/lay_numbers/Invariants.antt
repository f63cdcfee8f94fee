-- `lay_numbers` has touched eight bytes for each number that it has passed, and no other.
use Rattle.std.proofs.Common.{◌*◌}
use Rattle.engine.specs.Laid.{Within}
use Rattle.engine.proofs.serve.lay_numbers.Given as goal

abbrev pub invariant-loop-i : goal.invariant-loop-i
invariant-loop-i l = Within l.initial.bytes l.at (8 * l.i) l.bytes
