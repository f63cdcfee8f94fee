-- What the search asks and answers: operations are placed one by one, each within its window.
use Rattle.std.specs.Prelude.{◌≡◌, Bool, true, false, List, ℕ, ◌-◌, ◌<◌, ◌≤◌, length}
use Rattle.std.proofs.Math.Option.{Option, some}
use Rattle.maths.specs.Rows.{at, tabulate}
use Rattle.maths.specs.Words.{Same, Before}
use Rattle.model.specs.Limits as limit
use Rattle.model.specs.Graph.{Graph, many}
use Rattle.placement.specs.Fit.{Fits}

-- a graph, unit counts, and the first and the last start of each operation's window
pub record Job : Type 0 where
  pub graph : Graph
  pub units : List ℕ
  pub early : List ℕ
  pub late : List ℕ

-- the first m operations stand in their windows, where they may
pub record Placed (j : Job) (m : ℕ) (s : List ℕ) : Type 0 where
  pub low : (i : ℕ) → i < m → at j.early i ≤ at s i
  pub high : (i : ℕ) → i < m → at s i ≤ at j.late i
  pub fits : (i : ℕ) → i < m → Fits j.graph j.units s i

-- the row asked after, if there is one, has n entries
pub record Reaches (asked : Option (List ℕ)) (n : ℕ) : Type 0 where
  pub long : (row : List ℕ) → asked ≡ some row → n ≤ length row

-- i operations are placed; if a row is asked after, they are as in it
pub record Ready (j : Job) (s : List ℕ) (i : ℕ) (asked : Option (List ℕ)) : Type 0 where
  pub inside : i ≤ many j.graph
  pub placed : Placed j i s
  pub reaches : Reaches asked (many j.graph)
  pub same : (row : List ℕ) → asked ≡ some row → Same i row s

-- q completes s, of which i operations are placed, and comes after the row asked after
pub record Completes (j : Job) (s : List ℕ) (i : ℕ) (asked : Option (List ℕ)) (q : List ℕ) : Type 0 where
  pub placed : Placed j (many j.graph) q
  pub same : Same i q s
  pub later : (row : List ℕ) → asked ≡ some row → Before (many j.graph) row q

-- the search for the least row that completes s found one, s', or there is none
pub record Searched (j : Job) (s : List ℕ) (i : ℕ) (asked : Option (List ℕ)) (s' : List ℕ) (found : Bool) : Type 0 where
  pub kept : Same i s' s
  pub yes : found ≡ true → Completes j s i asked s'
  pub least : found ≡ true → (q : List ℕ) → Completes j s i asked q → Before (many j.graph) q s' → ⊥
  pub none : found ≡ false → (q : List ℕ) → Completes j s i asked q → ⊥

-- ---- one operation
-- r is the first start to try: the window's first, and not before the entry of the row asked after
pub record Begins (asked : Option (List ℕ)) (i early r : ℕ) : Type 0 where
  pub low : early ≤ r
  pub above : (row : List ℕ) → asked ≡ some row → at row i ≤ r
  pub least : (t : ℕ) → early ≤ t → ((row : List ℕ) → asked ≡ some row → at row i ≤ t) → r ≤ t

-- the row asked after stays asked after, exactly where its entry at i is t
pub record StaysEqual (asked : Option (List ℕ)) (i t : ℕ) (deeper : Option (List ℕ)) : Type 0 where
  pub was : (row : List ℕ) → deeper ≡ some row → asked ≡ some row
  pub same : (row : List ℕ) → deeper ≡ some row → at row i ≡ t
  pub apart : (row : List ℕ) → asked ≡ some row → at row i ≡ t → deeper ≡ some row

-- ---- the windows
-- the mobility that two rows of starts give to n operations
abbrev pub spans : List ℕ → List ℕ → ℕ → List ℕ
spans early late n = tabulate (λ i. at late i - at early i) n

-- each window lies within the steps, and its first start is not past its last
pub record Windows (early late : List ℕ) (n : ℕ) : Type 0 where
  pub ordered : (i : ℕ) → i < n → at early i ≤ at late i
  pub few : (i : ℕ) → i < n → at late i ≤ limit.steps
