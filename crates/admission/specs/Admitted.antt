-- What admission leaves: the first refusal that applies, or sound rows and the earliest starts. One record for every set of refusals.
use Rattle.std.specs.Prelude.{◌≡◌, Bool, false, List, ◌++◌, ℕ, ◌≤◌, length, Result, Ok, Err}
use Rattle.maths.specs.Rows.{at}
use Rattle.model.specs.Limits as limit
use Rattle.model.specs.Order.{Order, size}
use Rattle.model.specs.Graph.{Graph, order}
use Rattle.model.specs.Tables.{Earliest}
use Rattle.model.specs.Refusals.{Check, shape, output, unitless, cyclic, large_bound, late_bound}
use Rattle.model.specs.Answers.{Answered, refusal_of, Done}
use Rattle.model.specs.declared.Refusal.{Refusal}

-- ---- the sets of refusals; `Own` says that the rows that only the question takes do not match
-- 1 to 4 and 7
abbrev pub graph_checks : Graph → Type 0 → List Check
graph_checks g Own = shape g Own ++ cyclic (order g)

-- 1 to 4, 6 and 7
abbrev pub graph_unit_checks : Graph → Type 0 → List ℕ → List Check
graph_unit_checks g Own units = shape g Own ++ unitless g units ++ cyclic (order g)

-- 1 to 5 and 7
abbrev pub placed_checks : Graph → Type 0 → ℕ → List Check
placed_checks g Own room = shape g Own ++ output g room ++ cyclic (order g)

-- 1 to 7
abbrev pub placed_unit_checks : Graph → Type 0 → ℕ → List ℕ → List Check
placed_unit_checks g Own room units = shape g Own ++ output g room ++ unitless g units ++ cyclic (order g)

-- 8 and 9
abbrev pub bound_checks : Order → ℕ → List Check
bound_checks o bound = large_bound bound ++ late_bound o bound

-- 1 to 5 and 7 to 9
abbrev pub placed_within_checks : Graph → Type 0 → ℕ → ℕ → List Check
placed_within_checks g Own room bound = placed_checks g Own room ++ bound_checks (order g) bound

-- 1 to 9
abbrev pub placed_unit_within_checks : Graph → Type 0 → ℕ → List ℕ → ℕ → List Check
placed_unit_within_checks g Own room units bound = placed_unit_checks g Own room units ++ bound_checks (order g) bound

-- ---- what is left
-- the earliest starts, and zeros after them
pub record StartsRow (o : Order) (s : List ℕ) : Type 0 where
  pub long : length s ≡ limit.operations
  pub is : Earliest o s
  pub rest : (i : ℕ) → size o ≤ i → at s i ≡ 0

-- passed, the starts are the earliest
unfoldable pub Started : Order → Result (List ℕ) Refusal → Type 0
Started o (Ok s) = StartsRow o s
Started o (Err why) = Unit {0}

-- the first of the checks that applies is given; where none does the output row stays, and a refusal leaves it as its check says
pub record Admitted (o : Order) (checks : List Check) (before : List ℕ) (b : Result (List ℕ) Refusal) (after : List ℕ) : Type 0 where
  pub answered : Answered checks before (λ a. a ≡ before) (refusal_of b) after
  pub started : Started o b

-- an answer with no starts, and the starts that lie beside it
abbrev pub with_starts : List ℕ → Done → Result (List ℕ) Refusal
with_starts s (Ok done) = Ok s
with_starts s (Err why) = Err why

-- `matched` tells whether the rows that only the question takes match; `Own` says that they do not
pub record Matches (matched : Bool) (Own : Type 0) : Type 0 where
  pub odd : matched ≡ false → Own
  pub even : Own → matched ≡ false
