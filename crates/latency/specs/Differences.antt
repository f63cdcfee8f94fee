-- The difference of two rows.
use Rattle.std.specs.Prelude.{◌≡◌, List, ℕ, ◌-◌, ◌<◌, ◌≤◌, length}
use Rattle.maths.specs.Rows.{at}
use Rattle.model.specs.Limits as limit

-- `low` lies nowhere above `high` in the first n entries
pub record Under (high low : List ℕ) (n : ℕ) : Type 0 where
  pub few : n ≤ limit.operations
  pub under : (i : ℕ) → i < n → at low i ≤ at high i

-- row has `high` less `low` in its first n entries, and 0 in the others
pub record Differences (high low : List ℕ) (n : ℕ) (row : List ℕ) : Type 0 where
  pub long : length row ≡ limit.operations
  pub less : (i : ℕ) → i < n → at row i ≡ at high i - at low i
  pub rest : (i : ℕ) → n ≤ i → at row i ≡ 0
