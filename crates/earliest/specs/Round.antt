-- One round: each operation is visited, and placed at once if it waits for none.
use Rattle.std.specs.Prelude.{◌≡◌, List, ℕ, ◌+◌, ◌<◌}
use Rattle.maths.specs.Rows.{at}
use Rattle.maths.specs.Count.{marks}
use Rattle.model.specs.Order.{Order, size}
use Rattle.model.specs.Placing.{Waits}
use Rattle.theory.specs.order.PlacingSteps.{Part}
use Rattle.earliest.specs.Widths.{heaviest}

-- a visit of i placed r more; where it placed none nothing changed, and i waits if it is left
pub record Visit (o : Order) (i : ℕ) (s₀ s : List ℕ) (r : ℕ) : Type 0 where
  pub part : Part heaviest o s
  pub counts : marks s (size o) ≡ marks s₀ (size o) + r
  pub same : r ≡ 0 → s ≡ s₀
  pub stuck : r ≡ 0 → at s i ≡ 0 → Waits o s i

-- a round from s₀ to s placed r more; where it placed none, all that is left waits
pub record Round (o : Order) (s₀ s : List ℕ) (r : ℕ) : Type 0 where
  pub part : Part heaviest o s
  pub counts : marks s (size o) ≡ marks s₀ (size o) + r
  pub stuck : r ≡ 0 → (i : ℕ) → i < size o → at s i ≡ 0 → Waits o s i
