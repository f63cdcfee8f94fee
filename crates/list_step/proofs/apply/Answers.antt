-- The loop keeps `Passing`: operations of a lower rank have had their turn.
use Rattle.std.proofs.Common.{◌<◌, length, refl, arith, sym, ◌∙◌}
use Rattle.list_step.proofs.Passing.{passing_none, turn_inside, turn_starts, turn_barred, turn_full, passing_end}
use Rattle.list_step.proofs.apply.Goals as goal
use Rattle.list_step.proofs.apply.Goals.{then-left+then-is_candidate, else-left, else-left-via-then-left+else-is_candidate, else-left-via-else-left}

pub loop-turn-init : goal.loop-turn-init
loop-turn-init c =
    let w = c.args.work.now in
    passing_none w.sound w.busy_sound c.requires.starts_len c.requires.priority c.in_use-used.ensures

pub bounds-work-i : goal.bounds-work-i
bounds-work-i c =
    let h = c.loop-turn.invariant in
    omega (arith, h.sound.even_types, turn_inside h (omega arith) c.from-i.ensures)

pub bounds-work-kind : goal.bounds-work-kind
bounds-work-kind c =
    let h = c.loop-turn.invariant in
    rw c.from-kind.ensures (h.sound.type_in _ (turn_inside h (omega arith) c.from-i.ensures))

pub is_candidate-requires-clause-i_in_bounds : goal.is_candidate-requires-clause-i_in_bounds
is_candidate-requires-clause-i_in_bounds c = turn_inside c.loop-turn.invariant (omega arith) c.from-i.ensures

pub bounds-starts-i : goal.bounds-starts-i
bounds-starts-i c =
    let h = c.loop-turn.invariant in
    omega (arith, h.sound.few, turn_inside h (omega arith) c.from-i.ensures)

pub loop-turn-preserved : goal.loop-turn-preserved
loop-turn-preserved c =
    let h = c.loop-turn.invariant in
    let a = c.args.work.now in
    let more : c.loop-turn.turn < length c.args.work.now.delays.now = omega (arith, h.sound.even_types) in
    elim c.if-left.branch [
      | then-left+then-is_candidate w ↦
          rw (w.used-is, w.starts-is, c.from-kind.ensures, c.from-i.ensures)
          (turn_starts h more refl
          (rw c.from-i.ensures at (sym (w.is_candidate.ensures a.busy.now a.types.now (length a.units.now)) ∙ w.if-is_candidate.true))
          (rw (c.from.ensures, c.from-kind.ensures, c.from-i.ensures) at w.if-left.true))
      | else-left w ↦
          rw (w.used-is, w.starts-is)
          (elim w.else-left.branch [
            | else-left-via-then-left+else-is_candidate v ↦
                turn_barred h more (rw c.from-i.ensures at (sym (v.is_candidate.ensures a.busy.now a.types.now (length a.units.now)) ∙ v.if-is_candidate.false))
            | else-left-via-else-left v ↦
                turn_full h more (rw (c.from.ensures, c.from-kind.ensures, c.from-i.ensures) at v.if-left.false)
          ])
    ]

pub returns : goal.returns
returns c =
    let h = c.loop-turn.invariant in
    passing_end h (omega (arith, h.sound.even_types))
