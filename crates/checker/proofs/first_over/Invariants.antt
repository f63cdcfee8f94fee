-- `first_over` meets its contract: the steps passed are quiet.
use Rattle.checker.specs.Tally.{Quiet}
use Rattle.checker.proofs.first_over.Given as goal

abbrev pub invariant-loop-step : goal.invariant-loop-step
invariant-loop-step l = Quiet l.tally l.units l.step
