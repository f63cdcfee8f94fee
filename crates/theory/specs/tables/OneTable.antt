-- Each table has one value, and so has the latency of a row of starts.
use Rattle.std.specs.Prelude.{◌≡◌, List, ℕ, ◌-◌, ◌<◌, length}
use Rattle.std.proofs.Common.{sym, ap, ◌∙◌, arith}
use Rattle.maths.specs.Rows.{at, same_row}
use Rattle.model.specs.Order.{Order, size}
use Rattle.model.specs.Tables.{Latency, Earliest, Latest, Asap, Alap, Mobility}
use Rattle.model.specs.Graph.{Graph, order, many}

module _ {o : Order} {t : List ℕ} where
  -- any two latencies of one order and one row of starts are equal
  pub latency_one : {l m : ℕ} → Latency o t l → Latency o t m → l ≡ m
  latency_one a b = omega (arith, a.least _ b.within, b.least _ a.within)

-- ---- one value
pub earliest_starts_one : (o : Order) (s t : List ℕ) → Earliest o s → Earliest o t → (i : ℕ) → i < size o → at s i ≡ at t i
earliest_starts_one o s t a b i l = omega (arith, a.least t b.keeps i l, b.least s a.keeps i l)

pub latest_starts_one : (o : Order) (bound : ℕ) (s t : List ℕ) → Latest o bound s → Latest o bound t → (i : ℕ) → i < size o → at s i ≡ at t i
latest_starts_one o bound s t a b i l =
    omega (arith, a.greatest t b.keeps b.within i l, b.greatest s a.keeps a.within i l)

-- rows of n entries that agree below n are one row
rows_one : (n : ℕ) (s t : List ℕ) → length s ≡ n → length t ≡ n → ((i : ℕ) → i < n → at s i ≡ at t i) → s ≡ t
rows_one n s t a b each = same_row s t (a ∙ sym b) (λ i l. each i (omega arith))

pub asap_one : (g : Graph) (s t : List ℕ) → Asap g s → Asap g t → s ≡ t
asap_one g s t a b = rows_one (many g) s t a.long b.long (earliest_starts_one (order g) s t a.earliest b.earliest)

pub alap_one : (g : Graph) (bound : ℕ) (s t : List ℕ) → Alap g bound s → Alap g bound t → s ≡ t
alap_one g bound s t a b =
    rows_one (many g) s t a.long b.long (latest_starts_one (order g) bound s t a.latest b.latest)

pub mobility_one : (g : Graph) (bound : ℕ) (m k : List ℕ) → Mobility g bound m → Mobility g bound k → m ≡ k
mobility_one g bound m k a b =
    let early = asap_one g a.asap b.asap a.is_asap b.is_asap in
    let late = alap_one g bound a.alap b.alap a.is_alap b.is_alap in
    rows_one (many g) m k a.long b.long
    (λ i l. a.less i l ∙ ap (λ (r : List ℕ). at r i - at a.asap i) late ∙ ap (λ (r : List ℕ). at b.alap i - at r i) early ∙ sym (b.less i l))
