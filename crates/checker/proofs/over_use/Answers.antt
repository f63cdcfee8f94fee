-- `over_use` meets its contract: the tally counts those running among the operations passed, so what is read off it is the over-use.
use Rattle.std.proofs.Common.{[], refl, arith}
use Rattle.checker.proofs.Tallied.{tally_none, tally_can, tally_step, reads_overs}
use Rattle.checker.proofs.over_use.Goals as goal

pub loop-i-init : goal.loop-i-init
loop-i-init c = λ delays from to e. tally_none

pub mark-requires : goal.mark-requires
mark-requires c =
    let pre = c.requires in
    tally_can (c.loop-i.invariant c.args.busy.now [] [] refl) (omega (arith, pre.few)) (omega (arith, pre.type_in c.loop-i.i (omega arith), pre.few_kinds))
    (pre.positive c.loop-i.i (omega arith)) (omega (arith, pre.ends c.loop-i.i (omega arith), pre.bound_in))

pub loop-i-preserved : goal.loop-i-preserved
loop-i-preserved c = λ delays from to e.
    tally_step (c.loop-i.invariant delays from to e) (omega arith)
    (c.requires.positive _ (omega arith)) c.mark.ensures

pub returns : goal.returns
returns c = λ delays from to e.
    let pre = c.requires in
    reads_overs _ _ _ _ _ refl pre.few_kinds pre.bound_in (λ i l. pre.from_one i (omega arith)) (λ i l. pre.ends i (omega arith)) _
    (c.loop-i.invariant delays from to e) (omega arith) c.first_over.result c.first_over.ensures
