-- The graph, as it is lent.
use Rattle.std.specs.Prelude.{◌≡◌, List, ℕ, ◌≤◌, ◌<◌, length}
use Rattle.maths.specs.Rows.{at}
use Rattle.model.specs.Limits as limit
use Rattle.model.specs.Order.{Order, ordered}

-- `delays` is how long the successors of an operation wait, `busy` how long it keeps its unit. Today the two are one row.
pub record Graph : Type 0 where
  pub delays : List ℕ
  pub busy : List ℕ
  pub types : List ℕ
  pub kinds : ℕ
  pub from : List ℕ
  pub to : List ℕ

-- the graph of six things: delays, busy times, types, the number of types, and the two ends of the edges
abbrev pub graph_of : List ℕ → List ℕ → List ℕ → ℕ → List ℕ → List ℕ → Graph
graph_of d b t k f o = record { delays = d; busy = b; types = t; kinds = k; from = f; to = o }

-- the graph of the five things that a caller lends: an operation keeps its unit for its delay
abbrev pub lent : List ℕ → List ℕ → ℕ → List ℕ → List ℕ → Graph
lent d t k f o = graph_of d d t k f o

-- what precedence reads of it
abbrev pub order : Graph → Order
order g = ordered g.delays g.from g.to

-- how many operations
abbrev pub many : Graph → ℕ
many g = length g.delays

-- how many edges
abbrev pub edges_of : Graph → ℕ
edges_of g = length g.from

abbrev pub delay : Graph → ℕ → ℕ
delay g i = at g.delays i

-- how long i keeps its unit
abbrev pub busy_time : Graph → ℕ → ℕ
busy_time g i = at g.busy i

abbrev pub type_of : Graph → ℕ → ℕ
type_of g i = at g.types i

-- what refusals 1 to 4 leave: within the limits, rows that match, and every entry in its range
pub record Sound (g : Graph) : Type 0 where
  pub few : many g ≤ limit.operations
  pub few_edges : edges_of g ≤ limit.edges
  pub few_kinds : g.kinds ≤ limit.kinds
  pub even_types : many g ≡ length g.types
  pub even_ends : edges_of g ≡ length g.to
  pub delay_from : (i : ℕ) → i < many g → 1 ≤ delay g i
  pub delay_to : (i : ℕ) → i < many g → delay g i ≤ limit.longest
  pub type_in : (i : ℕ) → i < many g → type_of g i < g.kinds
  pub source_in : (e : ℕ) → e < edges_of g → at g.from e < many g
  pub target_in : (e : ℕ) → e < edges_of g → at g.to e < many g

-- what unit use reads is sound: a busy time for each operation, from 1 to its delay
pub record BusySound (g : Graph) : Type 0 where
  pub even : length g.busy ≡ many g
  pub from_one : (i : ℕ) → i < many g → 1 ≤ busy_time g i
  pub to_delay : (i : ℕ) → i < many g → busy_time g i ≤ delay g i
