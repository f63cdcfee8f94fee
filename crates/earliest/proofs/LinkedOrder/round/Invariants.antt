-- `LinkedOrder::round` meets its contract. The loop keeps `Sweep`: where none is placed, those visited wait.
use Rattle.earliest.specs.Linked.{order_of}
use Rattle.earliest.proofs.Sweep.{Sweep}
use Rattle.earliest.proofs.LinkedOrder.round.Given as goal

abbrev pub invariant-loop-k : goal.invariant-loop-k
invariant-loop-k l = Sweep (order_of l.self) l.up l.initial.starts l.starts l.placed l.k
