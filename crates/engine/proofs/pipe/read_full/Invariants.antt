-- `read_full` ends: each read that goes on brings a byte, so what is left of the slice falls. What is filled so far is what the input gave.
use Rattle.std.proofs.Common.{◌≡◌, ◌-◌, ◌≤◌, length, take}
use Rattle.std.specs.Io.KnownBytes.{Consumes}
use Rattle.engine.proofs.pipe.read_full.Given as goal

abbrev pub invariant-loop-got : goal.invariant-loop-got
invariant-loop-got g l = record {
  inside : l.got ≤ length l.bytes;
  same_length : length l.bytes ≡ length l.initial.bytes;
  came : Consumes (g.R.Read.remaining l.initial.input) (g.R.Read.remaining l.input) (take l.got l.bytes);
}

abbrev pub decreases-loop-got : goal.decreases-loop-got
decreases-loop-got g l = length l.bytes - l.got
