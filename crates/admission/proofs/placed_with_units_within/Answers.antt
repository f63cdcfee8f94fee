-- `placed_with_units_within` meets its contract: what `placed_with_units` refuses, or else the eighth and the ninth decide.
use Rattle.std.proofs.lemmas.Result.{err_from_is_err_and}
use Rattle.theory.specs.refusals.SoundGraph.{closed}
use Rattle.admission.specs.Admitted.{bound_checks}
use Rattle.admission.specs.AdmissionLaws.{admitted_handed, admitted_sound, admitted_starts, admitted_then}
use Rattle.admission.proofs.placed_with_units_within.Goals as goal

pub returns-in_err-starts : goal.returns-in_err-starts
returns-in_err-starts c =
    let given = err_from_is_err_and c.from_residual.result c.from_residual.ensures.1 in rw (given.1, given.2) (admitted_handed c.in_err-starts.ensures (bound_checks _ _))

pub order-requires : goal.order-requires
order-requires c = closed _ (admitted_sound c.in_ok-starts.ensures)

pub within-requires : goal.within-requires
within-requires c = rw c.order.ensures.order (admitted_starts c.in_ok-starts.ensures)

pub returns : goal.returns
returns c = admitted_then c.in_ok-starts.ensures (bound_checks _ _) (rw c.order.ensures.order at c.within.ensures)
