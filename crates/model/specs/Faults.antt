-- What the checker finds: lawful, or the first fault: an untimely operation, then a broken edge, then over-use.
use Rattle.std.specs.Prelude.{◌≡◌, List, ℕ, ◌+◌, ◌<◌}
use Rattle.maths.specs.Rows.{at}
use Rattle.maths.specs.Lowest.{None}
use Rattle.model.specs.Graph.{Graph, order, many, edges_of, delay}
use Rattle.model.specs.Order.{source, target}
use Rattle.model.specs.Use.{running}

-- a start of 0, or a finish past the bound
pub data Untimely (g : Graph) (bound : ℕ) (t : List ℕ) (i : ℕ) : Type 0 where
  unplaced : at t i ≡ 0 → Untimely g bound t i
  late : bound + 1 < at t i + delay g i → Untimely g bound t i

-- an edge whose end starts before its beginning is over
pub record Broken (g : Graph) (t : List ℕ) (e : ℕ) : Type 0 where
  pub early : at t (target (order g) e) < at t (source (order g) e) + delay g (source (order g) e)

-- at step l more operations of type k are running than it has units
pub record OverUsed (g : Graph) (units t : List ℕ) (l k : ℕ) : Type 0 where
  pub kind : k < g.kinds
  pub more : at units k < running g t k l

-- the earliest step with over-use, and its lowest type
pub record FirstOver (g : Graph) (units t : List ℕ) (l k : ℕ) : Type 0 where
  pub over : OverUsed g units t l k
  pub none_before : (m j : ℕ) → m < l → OverUsed g units t m j → ⊥
  pub none_below : (j : ℕ) → j < k → OverUsed g units t l j → ⊥

-- no operation is untimely and no edge is broken
pub record Timely (g : Graph) (bound : ℕ) (t : List ℕ) : Type 0 where
  pub operations : None (Untimely g bound t) (many g)
  pub edges : None (Broken g t) (edges_of g)
