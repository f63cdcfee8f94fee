-- `peaks` answers each type's peak: each number is the largest count at the starts passed, and a maximum is met at a start.
use Rattle.std.proofs.Common.{ℕ, ap, arith, length}
use Rattle.maths.specs.Rows.{at}
use Rattle.model.specs.Graph.{graph_of, type_of}
use Rattle.theory.specs.unit_use.RunningAndPeak.{running_first}
use Rattle.unit_use.specs.FirstInUse.{in_use_is}
use Rattle.peak_use.proofs.Peaked.{peaked_step, peaked_end}
use Rattle.peak_use.proofs.peaks.Goals as goal

pub loop-i-preserved : goal.loop-i-preserved
loop-i-preserved c = λ delays kinds from to e.
    let a = c.args in
    let here = c.loop-i in
    let g = graph_of delays a.busy.now a.types.now kinds from to in
    let t = a.starts.now in
    peaked_step (here.invariant delays kinds from to e) (omega arith) (c.requires.type_in c.loop-i.i (omega arith))
    (omega (arith, c.max.ensures, c.in_use-now.ensures, in_use_is g t (type_of g here.i) (at t here.i) (length a.busy.now), ap (λ (m : ℕ). running_first g t m (type_of g here.i) (at t here.i)) e))

pub returns : goal.returns
returns c = λ delays kinds from to e. peaked_end (c.loop-i.invariant delays kinds from to e) (omega arith)
