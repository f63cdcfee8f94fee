-- How far an order can be placed: a start for each operation that waits for none, and 0 for the others.
use Rattle.std.specs.Prelude.{◌≡◌, List, ℕ, ◌+◌, ◌≤◌, ◌<◌, length}
use Rattle.maths.specs.Rows.{at}
use Rattle.maths.specs.Count.{marks}
use Rattle.model.specs.Limits as limit
use Rattle.model.specs.Order.{Order, size, edge_count, weight, source, target}

-- i may start at step b: at 1 or later, and not before a predecessor is over
pub record MayStart (o : Order) (s : List ℕ) (i b : ℕ) : Type 0 where
  pub from_one : 1 ≤ b
  pub after : (e : ℕ) → e < edge_count o → target o e ≡ i → at s (source o e) + weight o (source o e) ≤ b

-- every predecessor of i is placed, and b is the first step at which i may start
pub record StartsAt (o : Order) (s : List ℕ) (i b : ℕ) : Type 0 where
  pub ready : (e : ℕ) → e < edge_count o → target o e ≡ i → 1 ≤ at s (source o e)
  pub may : MayStart o s i b
  pub least : (c : ℕ) → MayStart o s i c → b ≤ c

-- a predecessor of i is not placed
pub record Waits (o : Order) (s : List ℕ) (i : ℕ) : Type 0 where
  pub edge : ℕ
  pub inside : edge < edge_count o
  pub enters : target o edge ≡ i
  pub unplaced : at s (source o edge) ≡ 0

-- s has a start for each operation that waits for none, and 0 everywhere else; r operations are placed
pub record Placing (o : Order) (s : List ℕ) (r : ℕ) : Type 0 where
  pub long : length s ≡ limit.operations
  pub starts : (i : ℕ) → i < size o → 1 ≤ at s i → StartsAt o s i (at s i)
  pub waits : (i : ℕ) → i < size o → at s i ≡ 0 → Waits o s i
  pub rest : (i : ℕ) → size o ≤ i → at s i ≡ 0
  pub counts : r ≡ marks s (size o)
