-- Labels: there is one row of them, and each is the earliest start in the order turned round, with the operation's own weight added, less 1.
use Rattle.std.specs.Prelude.{◌≡◌, refl, ◌⊎◌, List, ℕ, zero, suc, ◌+◌, ◌-◌, ◌≤◌, ◌<◌, length, set}
use Rattle.std.proofs.Common.{sym, ap, subst, inl, inr, ⊎_elim, not-suc-le-zero, arith}
use Rattle.std.proofs.lemmas.List.{length-replicate, get_or-replicate}
use Rattle.std.proofs.Math.Seq.{get_or-set_same, get_or-set_other}
use Rattle.maths.specs.Cases.{same_or_not, lt_or_le}
use Rattle.maths.specs.Rows.{at, past}
use Rattle.maths.specs.Lowest.{None, find}
use Rattle.model.specs.Order.{Order, turned, size, edge_count, weight, source, target, Closed, Edge, Walk, one, more, Cyclic}
use Rattle.model.specs.Graph.{Graph, order, many}
use Rattle.model.specs.Tables.{Keeps, Earliest}
use Rattle.model.specs.Placing.{Placing}
use Rattle.model.specs.Rule.{Chain, alone, then, Labels, label_order}
use Rattle.theory.specs.order.PlacingOutcome.{placing_done, placing_cyclic}
use Rattle.theory.specs.refusals.SoundGraph.{closed_turned}

-- two rows of labels agree
pub labels_one : (o : Order) (a b : List ℕ) → Labels o a → Labels o b → (i : ℕ) → i < size o → at a i ≡ at b i
labels_one o a b x y i l =
    let p = x.each i l in
    let q = y.each i l in
    omega (arith, p.longest (at b i) q.chain, q.longest (at a i) p.chain)

-- ---- how a label is computed
module _ {heaviest : ℕ} (o : Order) (c : Closed heaviest o) (s : List ℕ) (h : Earliest (turned o) s) where
  -- s falls along each edge, by the weight of the operation that the edge enters
  falls : (e : ℕ) → e < edge_count o → at s (target o e) + weight o (target o e) ≤ at s (source o e)
  falls e l = h.keeps.edges e (omega (arith, c.even))

  -- and starts at 1 or later
  from_one : (i : ℕ) → i < size o → 1 ≤ at s i
  from_one i l = h.keeps.from_one i l

  -- no chain from i is heavier than s says
  never_heavier : {i m : ℕ} → Chain o i m → m + 1 ≤ at s i + weight o i
  never_heavier (alone l) = omega (arith, from_one _ l)
  never_heavier (then e chain) =
      omega (
        arith,
        never_heavier chain,
        falls e.number e.inside,
        ap (at s) e.leaves,
        ap (at s) e.enters,
        ap (at o.weights) e.enters,
      )

  -- an edge from i on which s falls by no more than it must
  record Steep (i e : ℕ) : Type 0 where
    leaves : source o e ≡ i
    exactly : at s (target o e) + weight o (target o e) ≡ at s i

  -- which is decided
  steep_or_not : (i e : ℕ) → Steep i e ⊎ (Steep i e → ⊥)
  steep_or_not i e =
      ⊎_elim
      (λ p.
      ⊎_elim
      (λ q. inl (record { leaves = p; exactly = q }))
      (λ n. inr (λ x. n x.exactly))
      (same_or_not (at s (target o e) + weight o (target o e)) (at s i)))
      (λ n. inr (λ x. n x.leaves))
      (same_or_not (source o e) i)

  -- were there none, i could be lowered
  module _ (i : ℕ) (l : i < size o) (more : 1 < at s i) (none : None (Steep i) (edge_count o)) where
    -- s with i one lower
    lowered : List ℕ
    lowered = set s i (at s i - 1)

    -- its entry at i
    here : at lowered i ≡ at s i - 1
    unfolding lowered
    here = get_or-set_same s i (at s i - 1) 0 (⊎_elim (λ p. p) (λ p. absurd (omega (arith, past s i p))) (lt_or_le i (length s)))

    -- and elsewhere
    there : (j : ℕ) → (j ≡ i → ⊥) → at lowered j ≡ at s j
    unfolding lowered
    there j n = get_or-set_other s i j (at s i - 1) 0 n

    -- it is nowhere above s
    never_more : (j : ℕ) → at lowered j ≤ at s j
    never_more j = ⊎_elim (λ q. omega (arith, here, ap (at lowered) q, ap (at s) q)) (λ n. omega (arith, there j n)) (same_or_not j i)

    -- it falls along each edge still
    still : (e : ℕ) → e < edge_count o → at lowered (target o e) + weight o (target o e) ≤ at lowered (source o e)
    still e b =
        ⊎_elim
        (λ q.
        let not : at s (target o e) + weight o (target o e) ≡ at s i → ⊥ = λ x. none e b (record { leaves = q; exactly = x }) in
        omega (arith, falls e b, never_more (target o e), here, ap (at lowered) q, ap (at s) q))
        (λ n. omega (arith, falls e b, never_more (target o e), there (source o e) n))
        (same_or_not (source o e) i)

    -- so it keeps the order turned round
    keeps : Keeps (turned o) lowered
    keeps = record {
      from_one = λ j m.
          ⊎_elim
          (λ q. omega (arith, here, ap (at lowered) q))
          (λ n. omega (arith, there j n, from_one j m))
          (same_or_not j i);
      edges = λ e m. still e (omega (arith, c.even));
    }

    -- but s is the earliest that does
    cannot : ⊥
    cannot = omega (arith, h.least lowered keeps i l, here)

  -- a chain from i as heavy as s says: along steep edges down to 1
  chain : (fuel i : ℕ) → i < size o → at s i < fuel → Chain o i (at s i + weight o i - 1)
  chain zero i l b = absurd (not-suc-le-zero b)
  chain (suc fuel) i l b =
      ⊎_elim
      (λ more.
      ⊎_elim
      (λ found.
      let e = found.place in
      let j = target o e in
      let inside = found.lowest.inside in
      let steep = found.lowest.holds in
      let edge : Edge o i j = record { number = e; inside = inside; leaves = steep.leaves; enters = refl } in
      let exactly = steep.exactly in
      let first = from_one j (c.target_in e inside) in
      let heavy = c.positive j (c.target_in e inside) in
      let sum : weight o i + (at s j + weight o j - 1) ≡ at s i + weight o i - 1 = omega arith in
      subst (Chain o i) sum (then edge (chain fuel j (c.target_in e inside) (omega arith))))
      (λ none. absurd (cannot i l more none))
      (find (Steep i) (edge_count o) (λ e m. steep_or_not i e)))
      (λ one.
      let sum : weight o i ≡ at s i + weight o i - 1 = omega (arith, from_one i l) in
      subst (Chain o i) sum (alone l))
      (lt_or_le 1 (at s i))

  -- so a label is the start turned round and the operation's own weight, less 1
  pub labels_earliest : (labels : List ℕ) → ((i : ℕ) → i < size o → at labels i ≡ at s i + weight o i - 1) → Labels o labels
  labels_earliest labels is = record {
    each = λ i l. record {
      chain = subst (Chain o i) (sym (is i l)) (chain (suc (at s i)) i l (omega arith));
      longest = λ m other. omega (arith, is i l, never_heavier other);
    };
  }

-- ---- placed along the edges turned round
-- one edge more at the end of a walk
longer : {o : Order} {i j k : ℕ} → Walk o i j → Edge o j k → Walk o i k
longer (one d) e = more d (one e)
longer (more d w) e = more d (longer w e)

module _ {heaviest : ℕ} (o : Order) (c : Closed heaviest o) where
  -- an edge of the order turned round, turned back
  edge_back : {i j : ℕ} → Edge (turned o) i j → Edge o j i
  edge_back e = record {
    number = e.number;
    inside = omega (arith, e.inside, c.even);
    leaves = e.enters;
    enters = e.leaves;
  }

  -- and so a walk
  walk_back : {i j : ℕ} → Walk (turned o) i j → Walk o j i
  walk_back (one e) = one (edge_back e)
  walk_back (more e w) = longer (walk_back w) (edge_back e)

  -- without a cycle all are placed, and the labels are computed from their starts
  pub labels_placed : (Cyclic o → ⊥) → (s : List ℕ) (r : ℕ) → Placing (turned o) s r → (labels : List ℕ)
      → ((i : ℕ) → i < size o → at labels i ≡ at s i + weight o i - 1) → Labels o labels
  labels_placed free s r h labels is =
      let back = closed_turned o c in
      ⊎_elim
      (λ e. labels_earliest o c s (placing_done back h e) labels is)
      (λ n.
      let around = placing_cyclic back h n in
      absurd (free (record { operation = around.operation; around = walk_back around.around })))
      (same_or_not r (size o))

-- ---- the order by which a graph is labelled
module _ (g : Graph) where
  -- it has the graph's operations
  pub label_size : size (label_order g) ≡ many g
  label_size = length-replicate {A = ℕ} (many g) 1

  -- each of them weighs 1
  pub label_weight : (i : ℕ) → i < many g → weight (label_order g) i ≡ 1
  label_weight i l = get_or-replicate (many g) i 1 0 l

  -- it is closed as the graph's own order is
  pub label_closed : {heaviest : ℕ} → Closed heaviest (order g) → Closed heaviest (label_order g)
  label_closed c =
      let inside : (i : ℕ) → i < size (label_order g) → i < many g = λ i l. omega (arith, label_size) in
      record {
        few = omega (arith, c.few, label_size);
        few_edges = c.few_edges;
        even = c.even;
        source_in = λ e l. omega (arith, c.source_in e l, label_size);
        target_in = λ e l. omega (arith, c.target_in e l, label_size);
        positive = λ i l. omega (arith, label_weight i (inside i l));
        small = λ i l. omega (arith, label_weight i (inside i l), c.positive i (inside i l), c.small i (inside i l));
      }

  -- its walks are the graph's
  label_walk : {i j : ℕ} → Walk (label_order g) i j → Walk (order g) i j
  label_walk (one e) = one (record { number = e.number; inside = e.inside; leaves = e.leaves; enters = e.enters })
  label_walk (more e w) =
      more (record { number = e.number; inside = e.inside; leaves = e.leaves; enters = e.enters }) (label_walk w)

  -- and has no cycle where the graph has none
  pub label_acyclic : (Cyclic (order g) → ⊥) → Cyclic (label_order g) → ⊥
  label_acyclic free around = free (record { operation = around.operation; around = label_walk around.around })

  -- two rows of a graph's labels agree
  pub graph_labels_one : (a b : List ℕ) → Labels (label_order g) a → Labels (label_order g) b → (i : ℕ) → i < many g → at a i ≡ at b i
  graph_labels_one a b x y i l = labels_one (label_order g) a b x y i (omega (arith, label_size))
