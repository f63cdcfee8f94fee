-- What the parts of `show` ask for and find. The records that their loops keep are in `theory`, under `cycle`.
use Rattle.std.specs.Prelude.{◌≡◌, List, ℕ, ◌+◌, ◌≤◌, ◌<◌, length, take}
use Rattle.maths.specs.Rows.{at}
use Rattle.model.specs.Limits as limit
use Rattle.model.specs.Order.{Order, size}
use Rattle.model.specs.Cycle.{Trail}

-- the row has 0 at i
abbrev pub Blank : List ℕ → ℕ → Type 0
Blank row i = at row i ≡ 0

-- r is the lowest below n at which the row has 0, or n
pub record FirstBlank (row : List ℕ) (n r : ℕ) : Type 0 where
  pub within : r ≤ n
  pub none : (k : ℕ) → k < r → Blank row k → ⊥
  pub found : r < n → Blank row r

-- the first `count` entries are the order's trail
pub record Trailed (o : Order) (met : List ℕ) (count twice : ℕ) : Type 0 where
  pub long : length met ≡ limit.operations
  pub few : count ≤ size o
  pub inside : twice < count
  pub trail : Trail o (take count met) twice

-- `lowest` is a place from `twice` to before `count`, and the steps are at most a whole round
pub record PartOfRound (twice count lowest steps : ℕ) : Type 0 where
  pub late : twice ≤ lowest
  pub inside : lowest < count
  pub most : steps + twice ≤ count
