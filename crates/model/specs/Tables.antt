-- Earliest and latest starts, mobility, latency.
use Rattle.std.specs.Prelude.{◌≡◌, List, ℕ, ◌+◌, ◌-◌, ◌<◌, ◌≤◌, length}
use Rattle.maths.specs.Rows.{at}
use Rattle.model.specs.Order.{Order, size, edge_count, weight, source, target}
use Rattle.model.specs.Graph.{Graph, order, many}

-- t starts nothing before step 1, and nothing before its predecessors are over
pub record Keeps (o : Order) (t : List ℕ) : Type 0 where
  pub from_one : (i : ℕ) → i < size o → 1 ≤ at t i
  pub edges : (e : ℕ) → e < edge_count o → at t (source o e) + weight o (source o e) ≤ at t (target o e)

-- every finish is within the bound: t + d - 1 is at most the bound, so the implied sink can stand at bound + 1
pub record Within (o : Order) (bound : ℕ) (t : List ℕ) : Type 0 where
  pub ends : (i : ℕ) → i < size o → at t i + weight o i ≤ bound + 1

-- each start is the least possible under precedence alone
pub record Earliest (o : Order) (t : List ℕ) : Type 0 where
  pub keeps : Keeps o t
  pub least : (u : List ℕ) → Keeps o u → (i : ℕ) → i < size o → at t i ≤ at u i

-- each start is the greatest under precedence and the bound
pub record Latest (o : Order) (bound : ℕ) (t : List ℕ) : Type 0 where
  pub keeps : Keeps o t
  pub within : Within o bound t
  pub greatest : (u : List ℕ) → Keeps o u → Within o bound u → (i : ℕ) → i < size o → at u i ≤ at t i

-- the ASAP starts, one for each operation
pub record Asap (g : Graph) (t : List ℕ) : Type 0 where
  pub long : length t ≡ many g
  pub earliest : Earliest (order g) t

-- the ALAP starts, one for each operation
pub record Alap (g : Graph) (bound : ℕ) (t : List ℕ) : Type 0 where
  pub long : length t ≡ many g
  pub latest : Latest (order g) bound t

-- ALAP less ASAP, one for each operation
pub record Mobility (g : Graph) (bound : ℕ) (m : List ℕ) : Type 0 where
  pub long : length m ≡ many g
  pub asap : List ℕ
  pub alap : List ℕ
  pub is_asap : Asap g asap
  pub is_alap : Alap g bound alap
  pub less : (i : ℕ) → i < many g → at m i ≡ at alap i - at asap i

-- the largest t + d, less 1; 0 for no operations. Said as the least bound that every finish is within
pub record Latency (o : Order) (t : List ℕ) (l : ℕ) : Type 0 where
  pub within : Within o l t
  pub least : (b : ℕ) → Within o b t → l ≤ b
