-- Without a cycle there are earliest starts, within a bound at or above their latency there are latest ones, and the latency is the largest t + d, less 1.
use Rattle.std.specs.Prelude.{◌≡◌, List, ℕ, ◌+◌, ◌-◌, ◌<◌, ◌≤◌}
use Rattle.std.proofs.Common.{arith, ⊎_elim}
use Rattle.maths.specs.Rows.{at, tabulate, tabulate_at}
use Rattle.maths.specs.Cases.{same_or_not}
use Rattle.model.specs.Order.{Order, size, weight, turned, Closed, Cyclic}
use Rattle.model.specs.Tables.{Latency, Earliest, Latest}
use Rattle.theory.specs.order.Decided.{acyclic_earliest, EarliestRow}
use Rattle.theory.specs.order.PlacingOutcome.{placing_exists, placing_done, placing_cyclic}
use Rattle.theory.specs.refusals.SoundGraph.{closed_turned}
use Rattle.theory.specs.tables.LatestTurned.{mirror, mirror_keeps, latest_turned, latency_within, asap_alap}
use Rattle.theory.specs.tables.KeepingStarts.{keeps_acyclic}

module _ {o : Order} {t : List ℕ} where
  -- no operations: 0
  pub latency_none : {l : ℕ} → size o ≡ 0 → Latency o t l → l ≡ 0
  latency_none e a = omega (arith, a.least 0 (record { ends = λ i l. absurd (omega arith) }))

  -- where none ends after i, the latency is i's t + d less 1
  pub latency_largest : {l : ℕ} (i : ℕ) → i < size o → 1 ≤ at t i + weight o i
      → ((j : ℕ) → j < size o → at t j + weight o j ≤ at t i + weight o i) → Latency o t l → l ≡ at t i + weight o i - 1
  latency_largest i inside some none_later a =
      omega
      (arith, a.within.ends i inside, a.least (at t i + weight o i - 1) (record { ends = λ j l. omega (arith, none_later j l) }))

-- an order without a cycle has earliest starts: they keep precedence, and none that do are earlier
pub earliest_exists : {heaviest : ℕ} (o : Order) → Closed heaviest o → (Cyclic o → ⊥) → EarliestRow o
earliest_exists o c none = acyclic_earliest c none

-- latest starts within a bound, none of them before the earliest
pub record LatestStarts (o : Order) (bound : ℕ) (s : List ℕ) : Type 0 where
  pub row : List ℕ
  pub latest : Latest o bound row
  pub not_before : (i : ℕ) → i < size o → at s i ≤ at row i

-- a bound at or above the ASAP latency leaves latest starts, and ASAP ≤ ALAP
pub latest_exists : {heaviest : ℕ} (o : Order) → Closed heaviest o → (bound l : ℕ) (s : List ℕ) → Earliest o s → Latency o s l → l ≤ bound → LatestStarts o bound s
latest_exists o c bound l s h ends up =
    let inside = latency_within o s l bound ends up in
    let back = mirror_keeps o c bound s h.keeps inside in
    let turn = closed_turned o c in
    let u = placing_exists turn in
    let all = ⊎_elim
    (λ e. e)
    (λ n. absurd (keeps_acyclic (turned o) turn (mirror o bound s) back (placing_cyclic turn u.is n)))
    (same_or_not u.number (size o)) in
    let row = tabulate (λ i. bound + 2 - weight o i - at u.row i) (size o) in
    let late = latest_turned o c bound s u.row row h.keeps inside (placing_done turn u.is all)
    (λ i m. tabulate_at (λ i. bound + 2 - weight o i - at u.row i) (size o) i m) in
    record { row = row; latest = late; not_before = asap_alap o bound s row h late }
