-- The loop keeps `Passing`: operations of a lower rank have had their turn.
use Rattle.model.specs.Lent.{work_in}
use Rattle.list_step.proofs.Passing.{Passing}
use Rattle.list_step.proofs.apply.Given as goal

abbrev pub invariant-loop-turn : goal.invariant-loop-turn
invariant-loop-turn l = Passing (work_in l.work) l.work.units.now l.ranked l.fn.starts l.step l.used l.starts l.turn
