-- The contract of `latest` leaves one row. Those of `asap`, `alap` and `mobility` are `asap_answer_one` and its like, beside the definitions.
use Rattle.std.specs.Prelude.{◌≡◌, List, ℕ}
use Rattle.std.proofs.Common.{sym, ◌∙◌, ⊎_elim}
use Rattle.maths.specs.Cases.{lt_or_le}
use Rattle.maths.specs.Rows.{same_row}
use Rattle.model.specs.Order.{Order, size}
use Rattle.theory.specs.tables.OneTable.{latest_starts_one}
pub use Rattle.theory.specs.tables.OneTableAnswer.{asap_answer_one, alap_answer_one, mobility_answer_one}
use Rattle.tables.specs.LatestRow.{LatestRow}

-- any two rows that the contract of `latest` allows are equal
pub latest_row_one : (o : Order) (bound : ℕ) (a b : List ℕ) → LatestRow o bound a → LatestRow o bound b → a ≡ b
latest_row_one o bound a b h k =
    same_row a b (h.long ∙ sym k.long)
    (λ i l.
    ⊎_elim (λ m. latest_starts_one o bound a b h.is k.is i m) (λ m. h.rest i m ∙ sym (k.rest i m)) (lt_or_le i (size o)))
