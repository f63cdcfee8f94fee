-- What the list schedule and its advance answer, for every input.
use Rattle.std.specs.Prelude.{◌≡◌, List, ℕ, ◌+◌, length, Result, Ok, Err}
use Rattle.std.proofs.Math.Option.{Option, none, some}
use Rattle.maths.specs.Rows.{over}
use Rattle.model.specs.Graph.{Graph, order}
use Rattle.model.specs.Tables.{Latency}
use Rattle.model.specs.Refusals.{First}
use Rattle.model.specs.Checks.{list_checks, advance_checks}
use Rattle.model.specs.Answers.{refusal_of, Answered}
use Rattle.model.specs.Rule.{Labels, label_order, stepped, AllPlaced, ListStarts}
use Rattle.model.specs.declared.Refusal.{Refusal}

-- ---- the list schedule
-- the latency that the answer gives
abbrev pub latency_in : Result ℕ Refusal → ℕ
latency_in (Ok l) = l
latency_in (Err why) = 0

-- the list schedule's starts fill the output's first entries, and the rest stays; l is their latency
pub record ListGiven (g : Graph) (units before : List ℕ) (l : ℕ) (after : List ℕ) : Type 0 where
  pub starts : List ℕ
  pub are : ListStarts g units starts
  pub ends : Latency (order g) starts l
  pub written : after ≡ over starts before

-- what `list_schedule` answers and leaves
abbrev pub ListAnswer : Graph → List ℕ → List ℕ → Result ℕ Refusal → List ℕ → Type 0
ListAnswer g units out r after =
    Answered (list_checks g units (length out)) out (ListGiven g units out (latency_in r)) (refusal_of r) after

-- ---- the advance
-- the rule at the state's step, and one step further on
pub record Moves (g : Graph) (units t : List ℕ) (step : ℕ) (t' : List ℕ) (step' : ℕ) : Type 0 where
  pub labels : List ℕ
  pub are_labels : Labels (label_order g) labels
  pub starts : t' ≡ stepped g labels units t step
  pub further : step' ≡ step + 1

-- the same state
pub record Stays (t : List ℕ) (step : ℕ) (t' : List ℕ) (step' : ℕ) : Type 0 where
  pub starts : t' ≡ t
  pub same : step' ≡ step

-- the state handed back: the same where refused or where all are placed, else one step further on
unfoldable pub StateAfter : Graph → List ℕ → List ℕ → ℕ → Option (ℕ × ℕ) → List ℕ → ℕ → Type 0
StateAfter g units t step none t' step' =
    (AllPlaced g t → Stays t step t' step') × ((AllPlaced g t → ⊥) → Moves g units t step t' step')
StateAfter g units t step (some why) t' step' = Stays t step t' step'

-- what `advance` answers, and the state that it hands back
pub record AdvanceAnswer (g : Graph) (units t : List ℕ) (step : ℕ) (refusal : Option (ℕ × ℕ)) (t' : List ℕ) (step' : ℕ) : Type 0 where
  pub first : First (advance_checks g units t step) refusal
  pub state : StateAfter g units t step refusal t' step'
