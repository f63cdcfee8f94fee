-- `peaks` answers each type's peak: each number is the largest count at the starts passed.
use Rattle.std.proofs.Common.{◌≡◌, List, ℕ, length}
use Rattle.model.specs.Graph.{graph_of}
use Rattle.peak_use.proofs.Peaked.{Peaked}
use Rattle.peak_use.proofs.peaks.Given as goal

abbrev pub invariant-loop-i : goal.invariant-loop-i
invariant-loop-i l =
    (delays : List ℕ) (kinds : ℕ) (from to : List ℕ) → length delays ≡ length l.busy → Peaked (graph_of delays l.busy l.types kinds from to) l.starts l.counts l.i
