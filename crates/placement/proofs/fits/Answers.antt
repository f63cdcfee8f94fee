-- The edges passed whose higher end is i are kept, and `room` tells of the units.
use Rattle.std.proofs.Common.{arith}
use Rattle.maths.specs.Cases.{tells_no}
use Rattle.maths.specs.TellLaws.{tells_as}
use Rattle.placement.proofs.HigherEnds.{all_kept, edge_inside, edge_own, not_kept}
use Rattle.placement.proofs.fits.Goals as goal

pub kept-requires : goal.kept-requires
kept-requires c =
    let own = edge_own c.loop-edge.invariant c.in-Some.is in
    (edge_inside c.loop-edge.invariant c.in-Some.is, omega (arith, own, c.requires.i_in_bounds.1), omega (arith, own, c.requires.i_in_bounds.1))

pub returns-then-not-kept : goal.returns-then-not-kept
returns-then-not-kept c =
    tells_no (λ f. not_kept c.loop-edge.invariant c.in-Some.is (c.kept.ensures.none c.if-not-kept.true) f.edges)

pub returns : goal.returns
returns c =
    tells_as _ (λ r. record { edges = all_kept c.loop-edge.invariant c.in_default.is; room = r }) (λ f. f.room) c.room.ensures
