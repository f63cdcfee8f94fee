-- The three tests one after another are the test that is promised.
use Rattle.std.proofs.Common.{rules, ⊎_elim, ◌∙◌, sym, eq-eqb, le-leb}
use Rattle.maths.specs.Tests.{◌and◌}
use Rattle.theory.specs.unit_use.RunningInNumbers.{runs_for, for_other, for_early}
use Rattle.unit_use.proofs.runs.Goals as goal

pub returns-then-start-step : goal.returns-then-start-step
unfolding runs_for ◌and◌
returns-then-start-step c = rw (eq-eqb _ _ c.if-start-step.true.0, le-leb _ _ c.if-start-step.true.1)

pub returns-else-start-step : goal.returns-else-start-step
returns-else-start-step c =
    ⊎_elim
    (λ h. search rules ∙ sym (for_early _ _ _ _ _ h.1))
    (λ h. search rules ∙ sym (for_other _ _ _ _ _ h))
    c.if-start-step.either
