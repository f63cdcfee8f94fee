-- The loop keeps `Going`: as many advances from fresh as steps passed. After the last step all are placed.
use Rattle.std.proofs.Common.{length, arith}
use Rattle.list_schedule.proofs.Going.{acyclic, going_none, going_full, going_step, going_end}
use Rattle.list_schedule.proofs.schedule.Goals as goal

pub ranks-ranked-requires : goal.ranks-ranked-requires
ranks-ranked-requires c = record { acyclic = acyclic c.requires }

pub loop-step-init : goal.loop-step-init
loop-step-init c =
    let w = c.args.work.now in
    going_none (c.ranks-ranked.ensures w.busy.now w.types.now (length w.units.now))

pub loop-step-preserved : goal.loop-step-preserved
loop-step-preserved c = going_step c.loop-step.invariant c.apply.ensures

pub returns-then-full : goal.returns-then-full
returns-then-full c = going_end c.loop-step.invariant (c.full.ensures.yes c.if-full.true)

pub returns-after-loop-step : goal.returns-after-loop-step
returns-after-loop-step c = going_end c.loop-step.invariant (going_full c.loop-step.invariant c.requires (omega arith))
