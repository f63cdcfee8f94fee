-- Where an operation may stand, given those before it: its edges to them are kept, and its type's units are enough while it runs.
use Rattle.std.specs.Prelude.{◌≡◌, List, ℕ, ◌+◌, ◌<◌, ◌≤◌, max, length}
use Rattle.maths.specs.Rows.{at, tabulate}
use Rattle.model.specs.Graph.{Graph, edges_of}
use Rattle.unit_use.specs.FirstInUse.{first_in_use}

-- the higher end of edge e: the one that is placed last
abbrev pub higher : List ℕ → List ℕ → ℕ → ℕ
higher from to e = max (at from e) (at to e)

-- the higher ends of all edges
abbrev pub highers : List ℕ → List ℕ → List ℕ
highers from to = tabulate (higher from to) (length from)

-- edge e is kept, if its higher end is i
pub record EdgeKept (delays from to t : List ℕ) (i e : ℕ) : Type 0 where
  pub kept : higher from to e ≡ i → at t (at from e) + at delays (at from e) ≤ at t (at to e)

-- the units of i's type are enough, with those before it, where j of that type starts after i and within i's run
pub record Calm (busy types units t : List ℕ) (i j : ℕ) : Type 0 where
  pub calm : at types j ≡ at types i → at t i < at t j → at t j < at t i + at busy i
      → first_in_use busy types t (at types i) (at t j) (i + 1) ≤ at units (at types i)

-- they are enough all the while that i runs
pub record UnitsEnough (busy types units t : List ℕ) (i : ℕ) : Type 0 where
  pub enough : (l : ℕ) → at t i ≤ l → l < at t i + at busy i → first_in_use busy types t (at types i) l (i + 1) ≤ at units (at types i)

-- operation i stands where it may, given those before it
pub record Fits (g : Graph) (units t : List ℕ) (i : ℕ) : Type 0 where
  pub edges : (e : ℕ) → e < edges_of g → EdgeKept g.delays g.from g.to t i e
  pub room : UnitsEnough g.busy g.types units t i
