-- What the whole schedule is, and when all starts are there.
use Rattle.std.specs.Prelude.{◌≡◌, List, ℕ, ◌≤◌, ◌<◌, length, take}
use Rattle.maths.specs.Rows.{at}
use Rattle.model.specs.Limits as limit
use Rattle.model.specs.Graph.{Graph, many}
use Rattle.model.specs.Rule.{ListStarts}

-- the row's first entries are the list schedule, and the rest are zeros
pub record ListRow (g : Graph) (units row : List ℕ) : Type 0 where
  pub long : length row ≡ limit.operations
  pub are : ListStarts g units (take (many g) row)
  pub rest : (i : ℕ) → many g ≤ i → at row i ≡ 0

-- the first n starts are all there
pub record Full (n : ℕ) (starts : List ℕ) : Type 0 where
  pub each : (i : ℕ) → i < n → 1 ≤ at starts i
