-- The graph as precedence reads it: how long the successors of each operation wait, and the edges. Walks, cycles, and what a cycle reaches.
use Rattle.std.specs.Prelude.{◌≡◌, List, ℕ, ◌≤◌, ◌<◌, length}
use Rattle.maths.specs.Rows.{at}
use Rattle.model.specs.Limits as limit

-- an operation for each weight, and an edge for each entry of `from`
pub record Order : Type 0 where
  pub weights : List ℕ
  pub from : List ℕ
  pub to : List ℕ

-- the order of three rows
abbrev pub ordered : List ℕ → List ℕ → List ℕ → Order
ordered w f t = record { weights = w; from = f; to = t }

-- every edge the other way round
abbrev pub turned : Order → Order
turned o = record { weights = o.weights; from = o.to; to = o.from }

-- how many operations
abbrev pub size : Order → ℕ
size o = length o.weights

-- how many edges
abbrev pub edge_count : Order → ℕ
edge_count o = length o.from

-- how long the successors of i wait after its start
abbrev pub weight : Order → ℕ → ℕ
weight o i = at o.weights i

-- where edge e leaves
abbrev pub source : Order → ℕ → ℕ
source o e = at o.from e

-- where edge e leads
abbrev pub target : Order → ℕ → ℕ
target o e = at o.to e

-- few enough operations and edges, each edge has two ends that are operations, each weight lies between 1 and the heaviest
pub record Closed (heaviest : ℕ) (o : Order) : Type 0 where
  pub few : size o ≤ limit.operations
  pub few_edges : edge_count o ≤ limit.edges
  pub even : length o.to ≡ edge_count o
  pub source_in : (e : ℕ) → e < edge_count o → source o e < size o
  pub target_in : (e : ℕ) → e < edge_count o → target o e < size o
  pub positive : (i : ℕ) → i < size o → 1 ≤ weight o i
  pub small : (i : ℕ) → i < size o → weight o i ≤ heaviest

-- an edge leads from i to j
pub record Edge (o : Order) (i j : ℕ) : Type 0 where
  pub number : ℕ
  pub inside : number < edge_count o
  pub leaves : source o number ≡ i
  pub enters : target o number ≡ j

-- one edge or more, from i to j
pub data Walk (o : Order) : ℕ → ℕ → Type 0 where
  one : {i j : ℕ} → Edge o i j → Walk o i j
  more : {i j k : ℕ} → Edge o i j → Walk o j k → Walk o i k

-- an operation from which edges lead back to it
pub record Cyclic (o : Order) : Type 0 where
  pub operation : ℕ
  pub around : Walk o operation operation

-- i can be reached along edges from an operation on a cycle, or is on one
pub record Kept (o : Order) (i : ℕ) : Type 0 where
  pub origin : ℕ
  pub around : Walk o origin origin
  pub reach : Walk o origin i
