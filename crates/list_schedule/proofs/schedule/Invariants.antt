-- The loop keeps `Going`: as many advances from fresh as steps passed.
use Rattle.model.specs.Lent.{work_in}
use Rattle.list_schedule.proofs.Going.{Going}
use Rattle.list_schedule.proofs.schedule.Given as goal

abbrev pub invariant-loop-step : goal.invariant-loop-step
invariant-loop-step l = Going (work_in l.work) l.work.units.now l.starts l.step
