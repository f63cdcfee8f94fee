-- Starts that keep an order: told by the entries of operations alone, and rising along walks, so that there is no cycle.
use Rattle.std.specs.Prelude.{◌≡◌, List, ℕ, ◌<◌}
use Rattle.std.proofs.Common.{ap, arith}
use Rattle.maths.specs.Rows.{at}
use Rattle.model.specs.Order.{Order, size, source, target, Closed, Edge, Walk, one, more, Cyclic}
use Rattle.model.specs.Tables.{Keeps, Within, Earliest, Latest}

-- ---- tables go by the entries of operations alone
module _ {heaviest : ℕ} (o : Order) (c : Closed heaviest o) (s t : List ℕ) (same : (i : ℕ) → i < size o → at s i ≡ at t i) where
  pub keeps_same : Keeps o s → Keeps o t
  keeps_same k = record {
    from_one = λ i l. omega (arith, same i l, k.from_one i l);
    edges = λ e l. omega (arith, same (source o e) (c.source_in e l), same (target o e) (c.target_in e l), k.edges e l);
  }

  pub within_same : (bound : ℕ) → Within o bound s → Within o bound t
  within_same bound w = record { ends = λ i l. omega (arith, same i l, w.ends i l) }

  pub earliest_same : Earliest o s → Earliest o t
  earliest_same h = record {
    keeps = keeps_same h.keeps;
    least = λ u k i l. omega (arith, same i l, h.least u k i l);
  }

  pub latest_same : (bound : ℕ) → Latest o bound s → Latest o bound t
  latest_same bound h = record {
    keeps = keeps_same h.keeps;
    within = within_same bound h.within;
    greatest = λ u k w i l. omega (arith, same i l, h.greatest u k w i l);
  }

-- ---- where starts keep the order, they rise along walks: so no cycle
module _ {heaviest : ℕ} (o : Order) (c : Closed heaviest o) (t : List ℕ) (k : Keeps o t) where
  edge_rises : {i j : ℕ} → Edge o i j → at t i < at t j
  edge_rises {i} {j} e =
      let kept = k.edges e.number e.inside in
      let long = c.positive (source o e.number) (c.source_in e.number e.inside) in
      let left = ap (at t) e.leaves in
      let right = ap (at t) e.enters in
      omega arith

  walk_rises : {i j : ℕ} → Walk o i j → at t i < at t j
  walk_rises (one e) = edge_rises e
  walk_rises (more e w) = omega (arith, edge_rises e, walk_rises w)

  pub keeps_acyclic : Cyclic o → ⊥
  keeps_acyclic h = absurd (omega (arith, walk_rises h.around))
