-- Unit use, what makes a schedule lawful, and peak use.
use Rattle.std.specs.Prelude.{◌≡◌, Bool, List, ℕ, ◌+◌, ◌<◌, ◌≤◌, leb, ltb, eqb, length}
use Rattle.maths.specs.Rows.{at}
use Rattle.maths.specs.Tests.{◌and◌}
use Rattle.maths.specs.Count.{count}
use Rattle.model.specs.Graph.{Graph, order, many, busy_time, type_of}
use Rattle.model.specs.Tables.{Keeps, Within}

-- operation i is of type k and running at step l: t ≤ l < t + busy
unfoldable pub runs : Graph → List ℕ → ℕ → ℕ → ℕ → Bool
runs g t k l i = eqb (type_of g i) k and (leb (at t i) l and ltb l (at t i + busy_time g i))

-- how many operations of type k are running at step l
abbrev pub running : Graph → List ℕ → ℕ → ℕ → ℕ
running g t k l = count (runs g t k l) (many g)

-- a schedule is lawful for a graph, unit counts and a bound
pub record Lawful (g : Graph) (units : List ℕ) (bound : ℕ) (t : List ℕ) : Type 0 where
  pub long : length t ≡ many g
  pub keeps : Keeps (order g) t
  pub within : Within (order g) bound t
  pub room : (k l : ℕ) → k < g.kinds → running g t k l ≤ at units k

-- p is the largest number of operations of type k that are running at any one step
pub record Peak (g : Graph) (t : List ℕ) (k p : ℕ) : Type 0 where
  pub never_more : (l : ℕ) → running g t k l ≤ p
  pub at_step : ℕ
  pub met : running g t k at_step ≡ p
