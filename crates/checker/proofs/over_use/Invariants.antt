-- `over_use` meets its contract: the tally counts those running among the operations passed, so what is read off it is the over-use.
use Rattle.std.proofs.Common.{List, ℕ, ◌≡◌, length}
use Rattle.model.specs.Graph.{graph_of}
use Rattle.checker.specs.Tally.{Tally}
use Rattle.checker.proofs.over_use.Given as goal

abbrev pub invariant-loop-i : goal.invariant-loop-i
invariant-loop-i l =
    (delays from to : List ℕ) → length delays ≡ length l.busy → Tally (graph_of delays l.busy l.types (length l.units) from to) l.starts l.tally l.i
