-- `bound_fault` meets its contract: one test, of one row of the table.
use Rattle.std.proofs.Common.{arith}
use Rattle.theory.specs.refusals.FirstRefusal.{first_says, first_silent, first_end, flat_says, flat_silent}
use Rattle.admission.proofs.bound_fault.Goals as goal

pub returns-then-bound-gt-STEPS : goal.returns-then-bound-gt-STEPS
returns-then-bound-gt-STEPS c = first_says _ _ 8 0 (flat_says 8 _ c.if-bound-gt-STEPS.true)

pub returns : goal.returns
returns c = first_silent _ _ _ (flat_silent 8 _ (λ l. omega arith)) first_end
