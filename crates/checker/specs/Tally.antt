-- The tally: a counter for each step and type, the mark that an operation leaves in it, and what is read off it.
use Rattle.std.specs.Prelude.{◌≡◌, List, [], ℕ, ◌+◌, ◌*◌, ◌≤◌, ◌<◌, length, get_or, Option, None, Some}
use Rattle.maths.specs.Lowest.{Lowest}
use Rattle.maths.specs.Rows.{at}
use Rattle.maths.specs.Count.{bit, count}
use Rattle.model.specs.Limits as limit
use Rattle.model.specs.Graph.{Graph, many}
use Rattle.model.specs.Use.{runs}
use Rattle.theory.specs.unit_use.RunningInNumbers.{runs_for}

-- the row of step l
abbrev pub row : List (List ℕ) → ℕ → List ℕ
row tally l = get_or tally l []

-- the counter of step l and type k
abbrev pub cell : List (List ℕ) → ℕ → ℕ → ℕ
cell tally l k = at (row tally l) k

-- a row for each step from 0 to the last, with a counter for each type: as many counters as the limit says
pub record Rows (tally : List (List ℕ)) : Type 0 where
  pub long : length tally ≡ limit.steps + 1
  pub cells : length tally * limit.kinds ≡ limit.cells
  pub wide : (l : ℕ) → l ≤ limit.steps → length (row tally l) ≡ limit.kinds

-- the steps from `start` to `last` are the tally's, the type is one of its types, and no counter of that type is at its top
pub record Markable (tally : List (List ℕ)) (kind start last : ℕ) : Type 0 where
  pub rows : Rows tally
  pub kind_in : kind < limit.kinds
  pub forward : start ≤ last
  pub last_in : last ≤ limit.steps
  pub low : (l : ℕ) → l ≤ limit.steps → cell tally l kind < limit.operations

-- the counters of that type went up by one from `start` to before `end`, and no other did
pub record Marked (before : List (List ℕ)) (kind start end : ℕ) (after : List (List ℕ)) : Type 0 where
  pub rows : Rows after
  pub counters : (l k : ℕ) → l ≤ limit.steps → k < limit.kinds → cell after l k ≡ cell before l k + bit (runs_for kind start end k l)

-- each counter says how many of the first i operations are of its type and running at its step
pub record Tally (g : Graph) (t : List ℕ) (tally : List (List ℕ)) (i : ℕ) : Type 0 where
  pub within : i ≤ many g
  pub rows : Rows tally
  pub counters : (l k : ℕ) → l ≤ limit.steps → k < limit.kinds → cell tally l k ≡ count (runs g t k l) i

-- in a step's row the counter of type k is above the type's units
pub record OverCell (row units : List ℕ) (k : ℕ) : Type 0 where
  pub kind : k < length units
  pub more : at units k < at row k

-- of the steps from 1 to before `step` none has a counter above its type's units
pub record Quiet (tally : List (List ℕ)) (units : List ℕ) (step : ℕ) : Type 0 where
  pub none_before : (l k : ℕ) → 1 ≤ l → l < step → OverCell (row tally l) units k → ⊥

-- the first step from 1 to the bound with a counter above its type's units, and its lowest type
pub record FirstCell (tally : List (List ℕ)) (units : List ℕ) (bound l k : ℕ) : Type 0 where
  pub from_one : 1 ≤ l
  pub inside : l ≤ bound
  pub lowest : Lowest (OverCell (row tally l) units) (length units) k
  pub quiet : Quiet tally units l

-- what is read off the tally: no counter above its type's units up to the bound, or the first
unfoldable pub Reads : List (List ℕ) → List ℕ → ℕ → Option (ℕ × ℕ) → Type 0
Reads tally units bound None = Quiet tally units (bound + 1)
Reads tally units bound (Some (l, k)) = FirstCell tally units bound l k
