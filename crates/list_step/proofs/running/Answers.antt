-- Each way out is the test that is left to decide.
use Rattle.std.proofs.Common.{arith}
use Rattle.std.proofs.lemmas.Bool.Decides.{nat_tests}
use Rattle.maths.specs.Tests.{◌and◌}
use Rattle.list_step.proofs.running.Goals as goal

pub returns-then-from-step : goal.returns-then-from-step
unfolding ◌and◌
returns-then-from-step c = grind (arith, nat_tests)

pub returns-else-from-step : goal.returns-else-from-step
unfolding ◌and◌
returns-else-from-step c = grind (arith, nat_tests)
