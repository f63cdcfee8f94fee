-- `earliest::earliest` meets its contract. The loop keeps `RoundsSoFar`: a part is placed and counted. What is not placed yet falls.
use Rattle.std.proofs.Common.{◌-◌, length}
use Rattle.model.specs.Order.{ordered}
use Rattle.earliest.proofs.Rounds.{RoundsSoFar}
use Rattle.earliest.proofs.earliest.Given as goal

abbrev pub invariant-loop-order : goal.invariant-loop-order
invariant-loop-order l = RoundsSoFar (ordered l.weights l.from l.to) l.starts l.total

abbrev pub decreases-loop-order : goal.decreases-loop-order
decreases-loop-order l = length l.weights - l.total
