-- `first_over` meets its contract: the steps passed are quiet, and so is one at which no type is over.
use Rattle.std.proofs.Common.{◌≡◌, arith}
use Rattle.checker.specs.Tally.{Reads}
use Rattle.checker.proofs.Reading.{quiet_step}
use Rattle.checker.proofs.first_over.Goals as goal

pub returns-in-Some : goal.returns-in-Some
unfolding Reads
returns-in-Some c = record {
  from_one = omega arith;
  inside = omega arith;
  lowest = c.in-Some.ensures;
  quiet = c.loop-step.invariant;
}

pub returns : goal.returns
unfolding Reads
returns c = record { none_before = λ l k p q. absurd (omega arith) }

pub returns-in_default : goal.returns-in_default
unfolding Reads
returns-in_default c =
    let last : c.loop-step.step ≡ c.args.bound = omega arith in rw last at (quiet_step c.loop-step.invariant c.in_default.ensures)
