-- The list schedule's rule at one step, for every state. A start of 0 is an operation that is not placed.
use Rattle.std.specs.Prelude.{◌≡◌, Bool, true, false, List, ℕ, zero, suc, ◌+◌, ◌<◌, ◌≤◌, leb, ltb, eqb, length, set, take, replicate}
use Rattle.maths.specs.Tests.{◌and◌, ◌or◌, neg}
use Rattle.maths.specs.Rows.{at, tabulate}
use Rattle.maths.specs.Count.{count}
use Rattle.model.specs.Limits as limit
use Rattle.model.specs.Order.{Order, ordered, size, weight, source, target, Edge}
use Rattle.model.specs.Graph.{Graph, order, many, edges_of, delay, type_of}
use Rattle.model.specs.Use.{runs}

-- ---- labels
-- a chain of operations along edges from i to the end, and the sum of their weights
pub data Chain (o : Order) : ℕ → ℕ → Type 0 where
  alone : {i : ℕ} → i < size o → Chain o i (weight o i)
  then : {i j n : ℕ} → Edge o i j → Chain o j n → Chain o i (weight o i + n)

-- the label: the sum of the weights on the heaviest chain from i to the end, its own included
pub record Label (o : Order) (i n : ℕ) : Type 0 where
  pub chain : Chain o i n
  pub longest : (m : ℕ) → Chain o i m → m ≤ n

-- a row of the labels
pub record Labels (o : Order) (labels : List ℕ) : Type 0 where
  pub each : (i : ℕ) → i < size o → Label o i (at labels i)

-- the order by whose weights a graph's operations are labelled: each weighs 1, so that a label is a number of operations
abbrev pub label_order : Graph → Order
label_order g = ordered (replicate (many g) 1) g.from g.to

-- ---- who is a candidate, who runs
-- a start of 0 is an operation that is not placed
abbrev pub placed : List ℕ → ℕ → Bool
placed t i = ltb 0 (at t i)

-- i is over at step l: placed with t + d ≤ l
pub record Finished (g : Graph) (t : List ℕ) (l i : ℕ) : Type 0 where
  pub placed : 1 ≤ at t i
  pub ended : at t i + delay g i ≤ l

-- a candidate at step l is an unplaced operation all of whose predecessors are placed with t + d ≤ l
pub record Candidate (g : Graph) (t : List ℕ) (l i : ℕ) : Type 0 where
  pub unplaced : at t i ≡ 0
  pub ready : (e : ℕ) → e < edges_of g → target (order g) e ≡ i → Finished g t l (source (order g) e)

-- how many operations of type k are running: placed, and t ≤ l < t + busy
abbrev pub in_use : Graph → List ℕ → ℕ → ℕ → ℕ
in_use g t k l = count (λ i. placed t i and runs g t k l i) (many g)

-- ---- the rule
-- j comes before i by a row of keys: a larger key, then a lower number. The list schedule's keys are the labels
unfoldable pub ahead : List ℕ → ℕ → ℕ → Bool
ahead keys j i = ltb (at keys i) (at keys j) or (eqb (at keys j) (at keys i) and ltb j i)

-- i may start next: it is a candidate that is still waiting, no candidate of its type that is still waiting comes before it, and fewer than
-- the type's units are running. Who is a candidate is asked of the starts as they were lent, `old`; who waits and who runs, of the starts so far, t
pub record Next (g : Graph) (keys units old : List ℕ) (l : ℕ) (t : List ℕ) (i : ℕ) : Type 0 where
  pub inside : i < many g
  pub candidate_still : Candidate g old l i
  pub waiting : at t i ≡ 0
  pub first : (j : ℕ) → j < many g → Candidate g old l j → at t j ≡ 0 → type_of g j ≡ type_of g i → ahead keys j i ≡ true → ⊥
  pub room : in_use g t (type_of g i) l < at units (type_of g i)

-- the rule at step l: candidates start one after another, until no more can
pub data OneByOne (g : Graph) (keys units old : List ℕ) (l : ℕ) : List ℕ → List ℕ → Type 0 where
  stop : {t : List ℕ} → ((i : ℕ) → Next g keys units old l t i → ⊥) → OneByOne g keys units old l t t
  start : {t u : List ℕ} {i : ℕ} → Next g keys units old l t i → OneByOne g keys units old l (set t i l) u → OneByOne g keys units old l t u

-- ---- the rule at once, by counting. It is what contracts say; that starting one after another ends exactly there is the theorem `one_by_one`
-- the test of `Finished`
unfoldable pub finished : Graph → List ℕ → ℕ → ℕ → Bool
finished g t l i = placed t i and leb (at t i + delay g i) l

-- edge e leads to i from an operation that is not placed with t + d ≤ l
unfoldable pub blocks : Graph → List ℕ → ℕ → ℕ → ℕ → Bool
blocks g t l i e = eqb (target (order g) e) i and neg (finished g t l (source (order g) e))

-- the test of `Candidate`: unplaced, and no edge blocks it
unfoldable pub candidate : Graph → List ℕ → ℕ → ℕ → Bool
candidate g t l i = eqb (at t i) 0 and eqb (count (blocks g t l i) (edges_of g)) 0

-- how many candidates of i's type come before i
abbrev pub candidates_ahead : Graph → List ℕ → List ℕ → ℕ → ℕ → ℕ
candidates_ahead g keys t l i =
    count (λ j. candidate g t l j and (eqb (type_of g j) (type_of g i) and ahead keys j i)) (many g)

-- i starts at step l: it is a candidate, and those running and those before it leave it a unit
unfoldable pub starts_now : Graph → List ℕ → List ℕ → List ℕ → ℕ → ℕ → Bool
starts_now g keys units t l i =
    ltb i (many g)
    and (candidate g t l i
    and ltb (in_use g t (type_of g i) l + candidates_ahead g keys t l i) (at units (type_of g i)))

-- the new start where it starts, else the old one
abbrev pub pick_start : Bool → ℕ → ℕ → ℕ
pick_start true new old = new
pick_start false new old = old

-- the starts after the rule at step l: what starts, starts at l, and the rest stays
unfoldable pub stepped : Graph → List ℕ → List ℕ → List ℕ → ℕ → List ℕ
stepped g keys units t l = tabulate (λ i. pick_start (starts_now g keys units t l i) l (at t i)) (length t)

-- all n are placed
pub record AllPlaced (g : Graph) (t : List ℕ) : Type 0 where
  pub each : (i : ℕ) → i < many g → 1 ≤ at t i

-- ---- the list schedule
-- the starts after k advances from the fresh state (step 1, all 0)
unfoldable pub after : Graph → List ℕ → List ℕ → ℕ → List ℕ
after g keys units zero = replicate limit.operations 0
after g keys units (suc k) = stepped g keys units (after g keys units k) (k + 1)

-- the starts at which the rule, from nothing placed, has placed all n
pub record ListStarts (g : Graph) (units t : List ℕ) : Type 0 where
  pub labels : List ℕ
  pub are_labels : Labels (label_order g) labels
  pub rounds : ℕ
  pub all : AllPlaced g (after g labels units rounds)
  pub is : t ≡ take (many g) (after g labels units rounds)
