-- `unit_fault` answers by rule 6, from the lowest type in use that has no unit.
use Rattle.theory.specs.refusals.FirstRefusal.{first_says, first_silent, first_end, at_lowest_says, at_lowest_silent}
use Rattle.admission.proofs.shape.unit_fault.Goals as goal

pub returns-in-Some : goal.returns-in-Some
returns-in-Some c = first_says _ _ 6 _ (at_lowest_says 6 _ _ _ (c.in-Some.ensures))

pub returns-in-None : goal.returns-in-None
returns-in-None c = first_silent _ _ _ (at_lowest_silent 6 _ _ (c.in-None.ensures)) first_end
