-- What the parts of the checker need and answer.
use Rattle.std.specs.Prelude.{◌≡◌, List, ℕ, ◌+◌, ◌≤◌, ◌<◌, length, Option, None, Some}
use Rattle.maths.specs.Rows.{at}
use Rattle.model.specs.Limits as limit
use Rattle.model.specs.Graph.{Graph}
use Rattle.model.specs.Faults as fault

-- the tally can hold the schedule: every type has its units, every operation a last step, nothing starts before step 1, and every finish is
-- within a bound that is within the last step
pub record Tallyable (busy types units : List ℕ) (bound : ℕ) (t : List ℕ) : Type 0 where
  pub few : length busy ≤ limit.operations
  pub few_kinds : length units ≤ limit.kinds
  pub even_types : length busy ≡ length types
  pub even_starts : length t ≡ length busy
  pub type_in : (i : ℕ) → i < length busy → at types i < length units
  pub positive : (i : ℕ) → i < length busy → 1 ≤ at busy i
  pub from_one : (i : ℕ) → i < length busy → 1 ≤ at t i
  pub ends : (i : ℕ) → i < length busy → at t i + at busy i ≤ bound + 1
  pub bound_in : bound ≤ limit.steps

-- no over-use at any step, or the first
unfoldable pub Overs : Graph → List ℕ → List ℕ → Option (ℕ × ℕ) → Type 0
Overs g units t None = (l k : ℕ) → fault.OverUsed g units t l k → ⊥
Overs g units t (Some (l, k)) = fault.FirstOver g units t l k
