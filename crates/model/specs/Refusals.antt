-- The table of refusals: each row is a check that says a number and a place, and the first that applies is given. `Checks` says which question takes which rows.
use Rattle.std.specs.Prelude.{◌≡◌, ◌⊎◌, List, [], ◌∷◌, ℕ, zero, suc, ◌+◌, ◌*◌, ◌<◌, ◌≤◌, length}
use Rattle.std.proofs.Math.Option.{Option, none, some}
use Rattle.maths.specs.Rows.{at}
use Rattle.maths.specs.Lowest.{Lowest}
use Rattle.model.specs.Limits as limit
use Rattle.model.specs.Order.{Order}
use Rattle.model.specs.Graph.{Graph, many, edges_of, delay, type_of}
use Rattle.model.specs.Cycle.{Shown}
use Rattle.model.specs.Tables.{Earliest, Latency, Mobility}

-- ---- what a check is, and which of several decides
-- what a check says: a number and a place
abbrev pub Says : Type 1
Says = ℕ → ℕ → Type 0

-- it says nothing
abbrev pub Silent : Says → Type 0
Silent S = (number place : ℕ) → S number place → ⊥

-- what a refusal writes where an output row is lent: nothing, or a row of some kind
pub data Writes : Type 1 where
  nothing : Writes
  some_row : (List ℕ → Type 0) → Writes

-- a row of the table: what it says, and what it writes where it is given
pub record Check : Type 1 where
  pub says : Says
  pub writes : Writes

-- a check that writes nothing
abbrev pub unwritten : Says → Check
unwritten S = record { says = S; writes = Writes.nothing }

-- the first check that says something decides
unfoldable pub First : List Check → Option (ℕ × ℕ) → Type 0
First [] none = Unit {0}
First [] (some r) = ⊥
First (R ∷ rest) none = Silent R.says × First rest none
First (R ∷ rest) (some r) = R.says r.0 r.1 ⊎ (Silent R.says × First rest (some r))

-- refusal `no`, place 0, given exactly when P
pub record Flat (no : ℕ) (P : Type 0) (number place : ℕ) : Type 0 where
  pub is : number ≡ no
  pub nowhere : place ≡ 0
  pub why : P

-- refusal `no` at the lowest of `among` places with P
pub record AtLowest (no among : ℕ) (P : ℕ → Type 0) (number place : ℕ) : Type 0 where
  pub is : number ≡ no
  pub lowest : Lowest P among place

-- ---- the conditions
-- 1: more operations, edges or types than the limits
pub data Large (g : Graph) : Type 0 where
  operations : limit.operations < many g → Large g
  edges : limit.edges < edges_of g → Large g
  kinds : limit.kinds < g.kinds → Large g

-- 2: rows that must match differ in length. `Own` says so of the rows that only some questions take
pub data Uneven (g : Graph) (Own : Type 0) : Type 0 where
  types : (many g ≡ length g.types → ⊥) → Uneven g Own
  ends : (edges_of g ≡ length g.to → ⊥) → Uneven g Own
  own : Own → Uneven g Own

-- the rows that only the checker takes: units and K, or starts and n
abbrev pub CheckUneven : Graph → List ℕ → List ℕ → Type 0
CheckUneven g units t = (length units ≡ g.kinds → ⊥) ⊎ (length t ≡ many g → ⊥)

-- the rows that only the lister takes: units and K, or the row asked after and n
unfoldable pub ListerUneven : Graph → List ℕ → Option (List ℕ) → Type 0
ListerUneven g units none = length units ≡ g.kinds → ⊥
ListerUneven g units (some row) = (length units ≡ g.kinds → ⊥) ⊎ (length row ≡ many g → ⊥)

-- 3: a delay outside 1 to the longest, or a type not below K
pub data BadOperation (g : Graph) (i : ℕ) : Type 0 where
  short : delay g i < 1 → BadOperation g i
  long : limit.longest < delay g i → BadOperation g i
  kind : g.kinds ≤ type_of g i → BadOperation g i

-- 4: an edge end not below n
pub data BadEdge (g : Graph) (e : ℕ) : Type 0 where
  from : many g ≤ at g.from e → BadEdge g e
  to : many g ≤ at g.to e → BadEdge g e

-- 6: type k has no unit, and an operation uses it
pub record NoUnit (g : Graph) (units : List ℕ) (k : ℕ) : Type 0 where
  pub none : at units k ≡ 0
  pub user : ℕ
  pub inside : user < many g
  pub uses : type_of g user ≡ k

-- 7: the graph has a cycle; the place is the length of the one shown
pub record CycleOf (o : Order) (number place : ℕ) : Type 0 where
  pub is : number ≡ 7
  pub cycle : List ℕ
  pub shown : Shown o cycle
  pub long : place ≡ length cycle

-- 9: the bound is below the ASAP latency
pub record Late (o : Order) (bound : ℕ) : Type 0 where
  pub asap : List ℕ
  pub latency : ℕ
  pub earliest : Earliest o asap
  pub ends : Latency o asap latency
  pub below : bound < latency

-- the product of (mobility + 1) over the first n entries
unfoldable pub product : List ℕ → ℕ → ℕ
product m zero = 1
product m (suc n) = product m n * (at m n + 1)

-- 10: the product of (mobility + 1) over all operations exceeds the limit
pub record ManyWindows (g : Graph) (bound : ℕ) : Type 0 where
  pub mobility : List ℕ
  pub is : Mobility g bound mobility
  pub above : limit.windows < product mobility (many g)

-- 11: an operation is unplaced, and the step is outside 1 to the last
pub record Outside (g : Graph) (t : List ℕ) (step : ℕ) : Type 0 where
  pub operation : ℕ
  pub inside : operation < many g
  pub unplaced : at t operation ≡ 0
  pub out : (step < 1) ⊎ (limit.steps < step)

-- 12: the channel is neither 0 nor 1
pub record NoChannel (channel : ℕ) : Type 0 where
  pub not_a : channel ≡ 0 → ⊥
  pub not_b : channel ≡ 1 → ⊥

-- ---- the rows
-- the table's first four rows
abbrev pub shape : Graph → Type 0 → List Check
shape g Own =
    unwritten (Flat 1 (Large g))
    ∷ unwritten (Flat 2 (Uneven g Own))
    ∷ unwritten (AtLowest 3 (many g) (BadOperation g))
    ∷ unwritten (AtLowest 4 (edges_of g) (BadEdge g))
    ∷ []

-- the fifth: `room` is the length of the output row
abbrev pub output : Graph → ℕ → List Check
output g room = unwritten (Flat 5 (room < many g)) ∷ []

-- the sixth
abbrev pub unitless : Graph → List ℕ → List Check
unitless g units = unwritten (AtLowest 6 g.kinds (NoUnit g units)) ∷ []

-- the seventh: it writes the cycle shown
abbrev pub cyclic : Order → List Check
cyclic o = record { says = CycleOf o; writes = Writes.some_row (Shown o) } ∷ []

-- the eighth
abbrev pub large_bound : ℕ → List Check
large_bound bound = unwritten (Flat 8 (limit.steps < bound)) ∷ []

-- the ninth
abbrev pub late_bound : Order → ℕ → List Check
late_bound o bound = unwritten (Flat 9 (Late o bound)) ∷ []

-- the tenth
abbrev pub many_windows : Graph → ℕ → List Check
many_windows g bound = unwritten (Flat 10 (ManyWindows g bound)) ∷ []

-- the eleventh
abbrev pub outside : Graph → List ℕ → ℕ → List Check
outside g t step = unwritten (Flat 11 (Outside g t step)) ∷ []

-- the twelfth
abbrev pub unnamed_channel : ℕ → List Check
unnamed_channel channel = unwritten (Flat 12 (NoChannel channel)) ∷ []

-- the thirteenth: `entries` is the length of the chosen table
abbrev pub past_table : ℕ → ℕ → ℕ → List Check
past_table entries first count = unwritten (Flat 13 (entries < first + count)) ∷ []
