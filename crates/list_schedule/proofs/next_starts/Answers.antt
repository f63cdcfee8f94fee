-- A graph that can be scheduled has no cycle, so its operations have ranks.
use Rattle.std.proofs.Common.{length}
use Rattle.list_schedule.proofs.Going.{acyclic}
use Rattle.list_schedule.proofs.next_starts.Goals as goal

pub ranks-ranked-requires : goal.ranks-ranked-requires
ranks-ranked-requires c = record { acyclic = acyclic c.requires.doable }

pub apply-requires-clause-priority : goal.apply-requires-clause-priority
apply-requires-clause-priority c =
    let w = c.args.work.now in
    c.ranks-ranked.ensures w.busy.now w.types.now (length w.units.now)
