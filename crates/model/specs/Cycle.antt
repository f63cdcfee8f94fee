-- The cycle shown: from the lowest kept number again and again to the lowest kept predecessor; the first operation met twice closes the cycle.
use Rattle.std.specs.Prelude.{◌≡◌, List, reverse, ℕ, ◌+◌, ◌-◌, ◌<◌, ◌≤◌, length, drop}
use Rattle.maths.specs.Rows.{at}
use Rattle.maths.specs.Turning.{beginning_at}
use Rattle.maths.specs.Lowest.{Lowest}
use Rattle.model.specs.Order.{Order, size, Edge, Kept}

-- j is kept and an edge leads from it to i
pub record Behind (o : Order) (i j : ℕ) : Type 0 where
  pub kept : Kept o j
  pub edge : Edge o j i

-- j is the lowest kept predecessor of i
abbrev pub Back : Order → ℕ → ℕ → Type 0
Back o i j = Lowest (Behind o i) (size o) j

-- the operations met, all different, from the lowest kept number back; after the last the one at `twice` is met again
pub record Trail (o : Order) (met : List ℕ) (twice : ℕ) : Type 0 where
  pub start : Lowest (Kept o) (size o) (at met 0)
  pub back : (k : ℕ) → k + 1 < length met → Back o (at met k) (at met (k + 1))
  pub apart : (j k : ℕ) → j < k → k < length met → at met j ≡ at met k → ⊥
  pub inside : twice < length met
  pub again : Back o (at met (length met - 1)) (at met twice)

-- the cycle shown: the operations met from the repeated one on, turned round, since the way back is against the edges, and turned to
-- begin with the lowest of them
pub record Shown (o : Order) (cycle : List ℕ) : Type 0 where
  pub met : List ℕ
  pub twice : ℕ
  pub trail : Trail o met twice
  pub place : ℕ
  pub inside : place < length cycle
  pub is : cycle ≡ beginning_at place (reverse (drop twice met))
  pub lowest : (k : ℕ) → k < length cycle → at cycle 0 ≤ at cycle k
