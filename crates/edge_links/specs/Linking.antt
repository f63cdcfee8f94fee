-- Edges linked by one of their ends: from the last edge with an end back to the first. A link is an edge's number counted from 1, and 0 where there is none.
use Rattle.std.specs.Prelude.{◌≡◌, List, ℕ, zero, suc, ◌+◌, ◌≤◌, ◌<◌, length, Option, Some, None}
use Rattle.maths.specs.Rows.{at}
use Rattle.model.specs.Limits as limit

-- an end for each of few enough edges, each of them a number that an operation may have
pub record LinkableEnds (ends : List ℕ) : Type 0 where
  pub few : length ends ≤ limit.edges
  pub inside : (e : ℕ) → e < length ends → at ends e < limit.operations

-- the operation's link, and the edge's
abbrev pub of_operation : List ℕ → ℕ → ℕ
of_operation links i = at links i

abbrev pub of_edge : List ℕ → ℕ → ℕ
of_edge links e = at links (limit.operations + e)

-- c links to the last of the edges below e whose end is i
pub record LastAt (ends : List ℕ) (i e c : ℕ) : Type 0 where
  pub within : c ≤ e
  pub is : (k : ℕ) → k + 1 ≡ c → at ends k ≡ i
  pub none : (k : ℕ) → c ≤ k → k < e → at ends k ≡ i → ⊥

-- each operation links to the last edge with that end, each edge to the one before it with the same end
pub record Linked (ends links : List ℕ) : Type 0 where
  pub long : length links ≡ limit.operations + limit.edges
  pub lasts : (i : ℕ) → i < limit.operations → LastAt ends i (length ends) (of_operation links i)
  pub befores : (e : ℕ) → e < length ends → LastAt ends (at ends e) e (of_edge links e)
  pub rest : (e : ℕ) → length ends ≤ e → of_edge links e ≡ 0

-- the edge that a link leads to, where there is one
abbrev pub edge_of : ℕ → Option ℕ
edge_of zero = None
edge_of (suc e) = Some e

-- the link that leads to it
abbrev pub link_of : Option ℕ → ℕ
link_of None = 0
link_of (Some e) = e + 1
