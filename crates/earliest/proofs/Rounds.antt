-- The loop of `earliest`: rounds, until one places none or nothing is left.
use mathlib.Core.Path.{◌≡◌, sym}
use mathlib.Core.List.{List}
use Prim.Native.Nat.{ℕ, ◌+◌, ◌≤◌}
use native.Mathlib.Omega.{arith}
use lib.ListN.{replicate, length-replicate}
use Rattle.maths.specs.Rows.{blank}
use Rattle.maths.specs.Count.{marks, marks_le, marks_lt, marks_none}
use Rattle.model.specs.Limits as limit
use Rattle.model.specs.Order.{Order, size}
use Rattle.model.specs.Placing.{Placing}
use Rattle.theory.specs.order.PlacingSteps.{Part, part_none, part_whole}
use Rattle.earliest.specs.Widths.{heaviest}
use Rattle.earliest.specs.Round.{Round}

-- the loop of `earliest`, before a round: part is placed, and it is counted
pub record RoundsSoFar (o : Order) (s : List ℕ) (total : ℕ) : Type 0 where
  pub part : Part heaviest o s
  pub counts : total ≡ marks s (size o)

module _ {o : Order} where
  -- nothing is placed yet
  pub rounds_none : RoundsSoFar o (replicate limit.operations 0) 0
  rounds_none = record {
    part = part_none (length-replicate {A = ℕ} limit.operations 0) (blank limit.operations);
    counts = sym (marks_none (replicate limit.operations 0) (size o) (λ i l. blank limit.operations i));
  }

  module _ {s₀ s : List ℕ} {total r : ℕ} (h : RoundsSoFar o s₀ total) (k : Round o s₀ s r) where
    -- a round adds what it placed
    pub rounds_step : RoundsSoFar o s (total + r)
    rounds_step = record { part = k.part; counts = omega (arith, h.counts, k.counts) }

    -- no more are placed than there are
    pub rounds_few : total + r ≤ size o
    rounds_few = omega (arith, rounds_step.counts, marks_le s (size o))

    -- a round that places none ends it: all that is left waits
    pub rounds_stuck : r ≡ 0 → Placing o s (total + r)
    rounds_stuck z = part_whole k.part (k.stuck z) rounds_step.counts

    -- so does one that places the last: nothing is left
    pub rounds_full : total + r ≡ size o → Placing o s (total + r)
    rounds_full q =
        part_whole k.part (λ i l z. absurd (omega (arith, marks_lt s (size o) i l z, rounds_step.counts))) rounds_step.counts
