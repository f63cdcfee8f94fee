-- The operations before i are counted, each by its own mark.
use Rattle.std.proofs.Common.{sym, ap, arith}
use Rattle.maths.specs.Count.{bit, count_start, count_step}
use Rattle.model.specs.Use.{runs}
use Rattle.theory.specs.unit_use.RunningInNumbers.{runs_for_is}
use Rattle.unit_use.specs.FirstInUse.{users}
use Rattle.unit_use.proofs.in_use.Goals as goal
use Rattle.unit_use.proofs.in_use.Goals.{then-runs, else-runs}

pub loop-i-init : goal.loop-i-init
loop-i-init c = record { is = sym (count_start _); few = omega arith }

pub loop-i-preserved : goal.loop-i-preserved
loop-i-preserved c =
    let g = users c.args.busy.now c.args.types.now in
    let more = count_step (runs g c.args.starts.now c.args.kind c.args.step) c.loop-i.i in
    let own = ap bit (runs_for_is g c.args.starts.now c.args.kind c.args.step c.loop-i.i) in
    let mark = ap bit c.runs.ensures in
    elim c.if-runs.branch [
      | then-runs w ↦
          let yes = ap bit w.if-runs.true in
          record { is = omega arith; few = omega arith }
      | else-runs w ↦
          let no = ap bit w.if-runs.false in
          record { is = omega arith; few = omega arith }
    ]
