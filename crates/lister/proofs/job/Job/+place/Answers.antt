-- Each turn puts i at the next start, and where it fits the call behind it settles all rows that begin so.
-- A start that is tried lies in its window wherever in it the loop ends, since windows are ordered: a loop that ends too early fails in its answer.
use Rattle.std.proofs.Common.{rules, arith}
use Rattle.lister.proofs.Turns.{done, loop_begins, loop_out, turn_unfit, turn_ready, turn_found, turn_more}
use Rattle.lister.proofs.job.Job.+place.Goals as goal
use Rattle.lister.proofs.job.Job.+place.Goals.{else-fits-via-then-fits+else-place, else-fits-via-else-fits}

pub returns-then-i-self : goal.returns-then-i-self
returns-then-i-self t c = done c.args.after (search rules) c.if-i-self.true c.requires

pub loop-t-init : goal.loop-t-init
loop-t-init t c = loop_begins (omega (arith, c.requires.inside, c.if-i-self.false)) c.requires c.first_try-first.ensures

pub place-requires : goal.place-requires
place-requires t c = (
  omega (arith, c.loop-t.invariant.inside),
  turn_ready c.loop-t.invariant (omega arith) (omega (arith, c.args.self.now.windows.ordered _ c.loop-t.invariant.inside)) c.still_after.ensures (c.fits.ensures.yes c.if-fits.true),
)

pub returns-then-place : goal.returns-then-place
returns-then-place t c =
    turn_found c.loop-t.invariant (omega arith) (omega (arith, c.args.self.now.windows.ordered _ c.loop-t.invariant.inside)) c.still_after.ensures (c.fits.ensures.yes c.if-fits.true) c.place.ensures c.if-place.true

pub loop-t-preserved : goal.loop-t-preserved
loop-t-preserved t c =
    elim c.else-fits.branch [
      | else-fits-via-then-fits+else-place w ↦
          rw w.starts-is
          (turn_more c.loop-t.invariant (omega arith) (omega (arith, c.args.self.now.windows.ordered _ c.loop-t.invariant.inside)) w.still_after.ensures (c.fits.ensures.yes w.if-fits.true) w.place.ensures w.if-place.false)
      | else-fits-via-else-fits w ↦
          rw w.starts-is (turn_unfit c.loop-t.invariant (omega arith) (omega (arith, c.args.self.now.windows.ordered _ c.loop-t.invariant.inside)) (c.fits.ensures.none w.if-fits.false))
    ]

pub returns-else-fits : goal.returns-else-fits
returns-else-fits t c =
    elim c.else-fits.branch [
      | else-fits-via-then-fits+else-place w ↦
          rw w.starts-is
          (loop_out (omega arith)
          (turn_more c.loop-t.invariant (omega arith) (omega (arith, c.args.self.now.windows.ordered _ c.loop-t.invariant.inside)) w.still_after.ensures (c.fits.ensures.yes w.if-fits.true) w.place.ensures w.if-place.false))
      | else-fits-via-else-fits w ↦
          rw w.starts-is
          (loop_out (omega arith) (turn_unfit c.loop-t.invariant (omega arith) (omega (arith, c.args.self.now.windows.ordered _ c.loop-t.invariant.inside)) (c.fits.ensures.none w.if-fits.false)))
    ]
