-- `unitless_kind` answers the lowest type in use that has no unit: it is the lowest over the operations passed.
use Rattle.std.proofs.Common.{◌≡◌, length, None, Some, sym, arith}
use Rattle.admission.proofs.Unitless.{so_far_own, so_far_kept, so_far_some, so_far_nothing, lowest_end}
use Rattle.admission.proofs.shape.unitless_kind.Goals as goal
use Rattle.admission.proofs.shape.unitless_kind.Goals.{then-units-kind-eq0+then-kind-lowest, else-units-kind-eq0, else-units-kind-eq0-via-then-units-kind-eq0+else-kind-lowest, else-units-kind-eq0-via-else-units-kind-eq0}

pub loop-own-preserved : goal.loop-own-preserved
loop-own-preserved c =
    elim c.if-units-kind-eq0.branch [
      | then-units-kind-eq0+then-kind-lowest w ↦
          rw w.lowest-is (so_far_own c.loop-own.invariant w.if-units-kind-eq0.true w.if-kind-lowest.true)
      | else-units-kind-eq0 w ↦
          rw w.lowest-is
          (so_far_kept c.loop-own.invariant
          (λ z.
          elim w.else-units-kind-eq0.branch [
            | else-units-kind-eq0-via-then-units-kind-eq0+else-kind-lowest x ↦ x.if-kind-lowest.false
            | else-units-kind-eq0-via-else-units-kind-eq0 x ↦ absurd (x.if-units-kind-eq0.false z)
          ]))
    ]

pub returns-then-lowest-graph : goal.returns-then-lowest-graph
returns-then-lowest-graph c =
    let e : c.loop-own.own-index ≡ length c.args.graph.now.delays.now = omega (arith, c.requires.sound.even_types) in
    lowest_end _ _ _ _ _ _ (Some c.loop-own.lowest) (so_far_some (rw (sym e) c.loop-own.invariant) c.if-lowest-graph.true)

pub returns : goal.returns
returns c =
    let e : c.loop-own.own-index ≡ length c.args.graph.now.delays.now = omega (arith, c.requires.sound.even_types) in
    lowest_end _ _ _ _ _ _ None (so_far_nothing (rw (sym e) c.loop-own.invariant) c.if-lowest-graph.false)
