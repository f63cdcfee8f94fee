-- What `show` asks for, and what it leaves.
use Rattle.std.specs.Prelude.{◌≡◌, List, ℕ, ◌<◌, length}
use Rattle.maths.specs.Rows.{at, over}
use Rattle.model.specs.Order.{Order, size, Kept}
use Rattle.model.specs.Cycle.{Shown}

-- of the operations, 0 marks exactly the kept
pub record KeptAt (o : Order) (starts : List ℕ) : Type 0 where
  pub zero : (i : ℕ) → i < size o → at starts i ≡ 0 → Kept o i
  pub kept : (i : ℕ) → Kept o i → at starts i ≡ 0

-- the cycle shown fills the row's first entries, the rest stays, and r is the cycle's length
pub record Shows (o : Order) (before after : List ℕ) (r : ℕ) : Type 0 where
  pub cycle : List ℕ
  pub shown : Shown o cycle
  pub long : r ≡ length cycle
  pub written : after ≡ over cycle before
