-- `placed` meets its contract: what refusals 1 to 5 say, or else the seventh.
use Rattle.std.proofs.Common.{ap, arith}
use Rattle.std.proofs.lemmas.Result.{err_from_is_err_and}
use Rattle.model.specs.Order.{size}
use Rattle.model.specs.Refusals.{cyclic}
use Rattle.theory.specs.refusals.RowAfterwards.{front_unwritten}
use Rattle.theory.specs.refusals.SoundGraph.{closed}
use Rattle.admission.specs.AdmissionLaws.{admitted_stopped, admitted_passed, passed_sound, passed_room}
use Rattle.admission.proofs.placed.Goals as goal

pub returns-in_err-front : goal.returns-in_err-front
returns-in_err-front c =
    let given = err_from_is_err_and c.from_residual.result c.from_residual.ensures.1 in rw (given.1, given.2) (admitted_stopped _ (cyclic _) (front_unwritten _ _ _) c.in_err-front.ensures)

pub order-requires : goal.order-requires
order-requires c = closed _ (passed_sound _ _ _ c.in_ok-front.ensures)

pub place-requires : goal.place-requires
place-requires c = record { room = omega (arith, passed_room _ _ _ _ c.in_ok-front.ensures, ap size c.order.ensures.order) }

pub returns-in_err-place : goal.returns-in_err-place
returns-in_err-place c =
    let given = err_from_is_err_and c.from_residual-in_err-place.result c.from_residual-in_err-place.ensures.1 in rw (given.1, given.2) (admitted_passed _ (cyclic _) c.in_ok-front.ensures (rw c.order.ensures.order at c.in_err-place.ensures))

pub returns : goal.returns
returns c = admitted_passed _ (cyclic _) c.in_ok-front.ensures (rw c.order.ensures.order at c.in_ok-place.ensures)
