-- What is met is all different, since each has its place marked; the marks run out, so one comes again.
use Rattle.std.proofs.Common.{arith}
use Rattle.theory.specs.cycle.WalkUntilMetAgain.{walking_none, walking_inside, walking_room, walking_step, walking_end}
use Rattle.cycle.proofs.walk.Goals as goal

pub loop-places-init : goal.loop-places-init
loop-places-init c = record {
  inside = walking_inside walking_none c.requires;
  room = walking_room walking_none c.requires;
  walking = walking_none;
}

pub loop-places-preserved : goal.loop-places-preserved
loop-places-preserved c =
    let next = walking_step c.loop-places.invariant.walking c.requires c.loop-places-test.true in
    rw c.from-here.ensures (record { inside = walking_inside next c.requires; room = walking_room next c.requires; walking = next })

pub invariant_of-result : goal.invariant_of-result
invariant_of-result c =
    let end = walking_end c.loop-places.invariant.walking (omega arith) in
    record { inside = omega arith; few = end.few }
