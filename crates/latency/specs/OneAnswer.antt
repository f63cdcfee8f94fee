-- Each contract leaves one answer.
use Rattle.std.specs.Prelude.{◌≡◌, List, [], ℕ}
use Rattle.std.proofs.Common.{sym, ◌∙◌, ⊎_elim}
use Rattle.maths.specs.Cases.{lt_or_le}
use Rattle.maths.specs.Rows.{same_row}
use Rattle.model.specs.Order.{ordered}
use Rattle.model.specs.Tables.{Latency}
use Rattle.theory.specs.tables.OneTable.{latency_one}
use Rattle.latency.specs.Differences.{Differences}

-- of `latency`
pub latency_answer_one : (delays starts : List ℕ) (l m : ℕ) → ((from to : List ℕ) → Latency (ordered delays from to) starts l)
    → ((from to : List ℕ) → Latency (ordered delays from to) starts m) → l ≡ m
latency_answer_one delays starts l m a b = latency_one (a [] []) (b [] [])

-- of `differences`
pub differences_one : {high low : List ℕ} {n : ℕ} (r s : List ℕ) → Differences high low n r → Differences high low n s → r ≡ s
differences_one {n = n} r s a b =
    same_row r s (a.long ∙ sym b.long)
    (λ i l.
    ⊎_elim (λ m. a.less i m ∙ sym (b.less i m)) (λ m. a.rest i m ∙ sym (b.rest i m)) (lt_or_le i n))
