-- The latest starts are the earliest of the order turned round, read from the bound backwards; a bound at or above the latency leaves room for them.
use Rattle.std.specs.Prelude.{◌≡◌, List, ℕ, ◌+◌, ◌-◌, ◌≤◌, ◌<◌, length}
use Rattle.std.proofs.Common.{arith}
use Rattle.maths.specs.Rows.{at, tabulate, tabulate_at}
use Rattle.model.specs.Order.{Order, turned, size, edge_count, weight, source, target, Closed}
use Rattle.model.specs.Tables.{Keeps, Within, Earliest, Latest, Latency}
use Rattle.model.specs.Refusals.{Late}
use Rattle.theory.specs.tables.OneTable.{earliest_starts_one}
use Rattle.theory.specs.tables.KeepingStarts.{within_same}

-- ---- the mirror: what keeps the order within a bound, read from the bound backwards, keeps the order turned round
unfoldable pub mirror : Order → ℕ → List ℕ → List ℕ
mirror o bound t = tabulate (λ i. bound + 2 - weight o i - at t i) (size o)

module _ {heaviest : ℕ} (o : Order) (c : Closed heaviest o) (bound : ℕ) (t : List ℕ) (k : Keeps o t) (w : Within o bound t) where
  pub mirror_at : (i : ℕ) → i < size o → at (mirror o bound t) i + weight o i + at t i ≡ bound + 2
  unfolding mirror
  mirror_at i l = omega (arith, tabulate_at (λ i. bound + 2 - weight o i - at t i) (size o) i l, w.ends i l)

  pub mirror_keeps : Keeps (turned o) (mirror o bound t)
  mirror_keeps = record {
    from_one = λ i l. omega (arith, mirror_at i l, w.ends i l);
    edges = λ e l.
        let inside : e < edge_count o = omega (arith, c.even) in
        let from = mirror_at (source o e) (c.source_in e inside) in
        let to = mirror_at (target o e) (c.target_in e inside) in
        let kept = k.edges e inside in
        omega arith;
  }

module _ {heaviest : ℕ} (o : Order) (c : Closed heaviest o) (bound : ℕ) where
  -- u are the earliest starts turned round and s keeps the order within the bound: then t, where t + d + u is bound + 2, are the latest starts
  pub latest_turned : (s u t : List ℕ) → Keeps o s → Within o bound s → Earliest (turned o) u
      → ((i : ℕ) → i < size o → at t i ≡ bound + 2 - weight o i - at u i) → Latest o bound t
  latest_turned s u t k w h is =
      let below : (v : List ℕ) → Keeps o v → Within o bound v → (i : ℕ) → i < size o → at u i + weight o i + at v i ≤ bound + 2 =
      λ v kv wv i l. omega (arith, mirror_at o c bound v kv wv i l, h.least (mirror o bound v) (mirror_keeps o c bound v kv wv) i l) in
      let sum : (i : ℕ) → i < size o → at t i + weight o i + at u i ≡ bound + 2 =
      λ i l. omega (arith, is i l, below s k w i l) in
      record {
        keeps = record {
          from_one = λ i l. omega (arith, sum i l, below s k w i l, k.from_one i l);
          edges = λ e l.
              let inside : e < length o.to = omega (arith, c.even) in
              omega (
                arith,
                sum (source o e) (c.source_in e l),
                sum (target o e) (c.target_in e l),
                h.keeps.edges e inside,
              );
        };
        within = record { ends = λ i l. omega (arith, sum i l, h.keeps.from_one i l) };
        greatest = λ v kv wv i l. omega (arith, sum i l, below v kv wv i l);
      }

-- ---- a bound at or above the latency
pub latency_within : (o : Order) (t : List ℕ) (l bound : ℕ) → Latency o t l → l ≤ bound → Within o bound t
latency_within o t l bound h up = record { ends = λ i m. omega (arith, h.within.ends i m) }

-- such a bound is not below the ASAP latency: the latency of any earliest starts is that of these
pub not_late : {heaviest : ℕ} (o : Order) → Closed heaviest o → (early : List ℕ) → Earliest o early → (l bound : ℕ) → Latency o early l → l ≤ bound → Late o bound → ⊥
not_late o closed early is l bound ends up x =
    let same = earliest_starts_one o early x.asap is x.earliest in
    let inside = within_same o closed early x.asap same bound (latency_within o early l bound ends up) in
    absurd (omega (arith, x.below, x.ends.least bound inside))

-- no latest start lies before the earliest
pub asap_alap : (o : Order) (bound : ℕ) (s t : List ℕ) → Earliest o s → Latest o bound t → (i : ℕ) → i < size o → at s i ≤ at t i
asap_alap o bound s t h k i l = h.least t k.keeps i l
