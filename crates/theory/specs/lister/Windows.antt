-- Windows lose nothing: each start of a lawful schedule lies between its ASAP and its ALAP start.
use Rattle.std.specs.Prelude.{List, ℕ, ◌≤◌, ◌<◌}
use Rattle.maths.specs.Rows.{at}
use Rattle.model.specs.Graph.{Graph, order, many}
use Rattle.model.specs.Tables.{Earliest, Latest}
use Rattle.model.specs.Use.{Lawful}

-- windows lose nothing: each start of a lawful schedule lies between its ASAP and its ALAP start
pub record InWindow (low high : List ℕ) (n : ℕ) (t : List ℕ) : Type 0 where
  pub from : (i : ℕ) → i < n → at low i ≤ at t i
  pub to : (i : ℕ) → i < n → at t i ≤ at high i

-- the earliest starts are below all that keep the order, the latest above all that also keep the bound
pub lawful_in_window : (g : Graph) (units : List ℕ) (bound : ℕ) (early late t : List ℕ) → Earliest (order g) early → Latest (order g) bound late
    → Lawful g units bound t → InWindow early late (many g) t
lawful_in_window g units bound early late t e l h = record {
  from = e.least t h.keeps;
  to = l.greatest t h.keeps h.within;
}
