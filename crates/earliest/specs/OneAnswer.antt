-- The contracts of `earliest` and `by_delays` leave one answer and one content of the row.
use Rattle.std.specs.Prelude.{◌≡◌, List, ℕ}
use Rattle.model.specs.Order.{ordered, Closed}
use Rattle.model.specs.Placing.{Placing}
use Rattle.theory.specs.order.PlacingOutcome.{placing_one}

-- any two outcomes that the contract allows are equal, row and number
pub earliest_one : {heaviest : ℕ} (weights from to : List ℕ) → Closed heaviest (ordered weights from to) → {s s' : List ℕ} {r r' : ℕ} → Placing (ordered weights from to) s r
    → Placing (ordered weights from to) s' r' → (s ≡ s') × (r ≡ r')
earliest_one weights from to c p q = placing_one c p q
