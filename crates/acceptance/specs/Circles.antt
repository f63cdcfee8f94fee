-- The cycles shown in cases 6 and 7. Each operation of them is kept, so that the lowest predecessor is the lowest kept one, and computing tells which it is.
use Rattle.std.specs.Prelude.{◌≡◌, refl, Bool, true, List, [], ◌∷◌, ℕ, zero, suc, ◌+◌, ◌≤◌, ◌<◌, leb, eqb}
use Rattle.std.proofs.Common.{⊎_elim, arith, below_more, leb-true}
use Rattle.std.proofs.lemmas.Bool.{eqb-false}
use Rattle.maths.specs.Tests.{◌and◌, ◌or◌, neg, clash, or_cases, neg_false}
use Rattle.maths.specs.TellLaws.{tells_every}
use Rattle.maths.specs.Rows.{at}
use Rattle.maths.specs.Count.{every}
use Rattle.model.specs.Order.{Order, size, edge_count, source, target, Edge, Walk, one, more, Kept}
use Rattle.model.specs.Graph.{Graph, order}
use Rattle.model.specs.Cycle.{Back, Shown}
use Rattle.acceptance.specs.Free.{plain_graph, two_starts, below_two}

-- a row of three
abbrev pub three : ℕ → ℕ → ℕ → List ℕ
three a b c = a ∷ (b ∷ (c ∷ []))

-- what holds of 0, 1 and 2 holds below 3
pub below_three : (P : ℕ → Type 0) → P 0 → P 1 → P 2 → (i : ℕ) → i < 3 → P i
below_three P a b c = below_more P 2 (below_two P a b) c

-- three that differ stand apart in their row
apart_three : (a b c : ℕ) → (a ≡ b → ⊥) → (a ≡ c → ⊥) → (b ≡ c → ⊥) → (j k : ℕ) → j < k → k < 3 → at (three a b c) j ≡ at (three a b c) k → ⊥
apart_three a b c p q r j zero l m e = omega arith
apart_three a b c p q r zero (suc zero) l m e = p e
apart_three a b c p q r (suc j) (suc zero) l m e = omega arith
apart_three a b c p q r zero (suc (suc zero)) l m e = q e
apart_three a b c p q r (suc zero) (suc (suc zero)) l m e = r e
apart_three a b c p q r (suc (suc j)) (suc (suc zero)) l m e = omega arith
apart_three a b c p q r j (suc (suc (suc k))) l m e = omega arith

-- no edge leads to i from below j
unfoldable pub none_lower : Order → ℕ → ℕ → Bool
none_lower o i j = every (λ e. neg (eqb (target o e) i) or leb j (source o e)) (edge_count o)

-- the test says so of each edge
none_lower_tells : (o : Order) (i j : ℕ) → none_lower o i j ≡ true → (e : ℕ) → e < edge_count o → target o e ≡ i → j ≤ source o e
unfolding none_lower
none_lower_tells o i j t e l enters =
    let test : ℕ → Bool = λ e. neg (eqb (target o e) i) or leb j (source o e) in
    let each =
    (tells_every test (λ e. test e ≡ true) (edge_count o) (λ e l. record { yes = λ p. p; none = λ p q. clash q p })
    ).yes t e l in
    ⊎_elim
    (λ n. absurd (eqb-false (target o e) i (neg_false (eqb (target o e) i) n) enters))
    (λ p. leb-true j (source o e) p)
    (or_cases (neg (eqb (target o e) i)) (leb j (source o e)) each)

-- j is kept, edge e leads from it to i, and none leads there from below: it is the lowest kept predecessor
back_is : (o : Order) (i j e : ℕ) → Kept o j → j < size o → e < edge_count o → source o e ≡ j → target o e ≡ i → none_lower o i j ≡ true → Back o i j
back_is o i j e kept inside l leaves enters t = record {
  inside = inside;
  holds = record { kept = kept; edge = record { number = e; inside = l; leaves = leaves; enters = enters } };
  none_before = λ k m h.
      omega (arith, none_lower_tells o i j t h.edge.number h.edge.inside h.edge.enters, h.edge.leaves);
}

-- ---- case 6: 0→1, 1→2, 2→0
abbrev pub ring : Graph
ring = plain_graph 3 (three 0 1 2) (three 1 2 0)

ring_edge : (e : ℕ) → e < 3 → Edge (order ring) (at (three 0 1 2) e) (at (three 1 2 0) e)
ring_edge e l = record { number = e; inside = l; leaves = refl; enters = refl }

ring_around : Walk (order ring) 0 0
ring_around = more (ring_edge 0 (omega arith)) (more (ring_edge 1 (omega arith)) (one (ring_edge 2 (omega arith))))

ring_kept : (i : ℕ) → i < 3 → Kept (order ring) i
ring_kept =
    below_three (λ (i : ℕ). Kept (order ring) i)
    (record { origin = 0; around = ring_around; reach = ring_around })
    (record { origin = 0; around = ring_around; reach = one (ring_edge 0 (omega arith)) })
    (record {
      origin = 0;
      around = ring_around;
      reach = more (ring_edge 0 (omega arith)) (one (ring_edge 1 (omega arith)));
    })

-- back from 0 one meets 2, then 1, then 0 again
ring_back : (e : ℕ) → e < 3 → Back (order ring) (at (three 1 2 0) e) (at (three 0 1 2) e)
unfolding none_lower every ◌and◌ ◌or◌ neg
ring_back =
    below_three (λ (e : ℕ). Back (order ring) (at (three 1 2 0) e) (at (three 0 1 2) e))
    (back_is (order ring) 1 0 0 (ring_kept 0 (omega arith)) (omega arith) (omega arith) refl refl refl)
    (back_is (order ring) 2 1 1 (ring_kept 1 (omega arith)) (omega arith) (omega arith) refl refl refl)
    (back_is (order ring) 0 2 2 (ring_kept 2 (omega arith)) (omega arith) (omega arith) refl refl refl)

pub ring_shown : Shown (order ring) (three 0 1 2)
ring_shown = record {
  met = three 0 2 1;
  twice = 0;
  trail = record {
    start = record { inside = omega arith; holds = ring_kept 0 (omega arith); none_before = λ k l. absurd (omega arith) };
    back = λ k l.
        below_two (λ (k : ℕ). Back (order ring) (at (three 0 2 1) k) (at (three 0 2 1) (k + 1))) (ring_back 2 (omega arith)) (ring_back 1 (omega arith))
        k (omega arith);
    apart = apart_three 0 2 1 (λ e. omega arith) (λ e. omega arith) (λ e. omega arith);
    inside = omega arith;
    again = ring_back 0 (omega arith);
  };
  place = 2;
  inside = omega arith;
  is = refl;
  lowest = λ k l. omega arith;
}

-- ---- case 7: 1→2, 2→1, 1→0. 0 is on no cycle, but is reached from one
abbrev pub tail : Graph
tail = plain_graph 3 (three 1 2 1) (three 2 1 0)

tail_edge : (e : ℕ) → e < 3 → Edge (order tail) (at (three 1 2 1) e) (at (three 2 1 0) e)
tail_edge e l = record { number = e; inside = l; leaves = refl; enters = refl }

tail_around : Walk (order tail) 1 1
tail_around = more (tail_edge 0 (omega arith)) (one (tail_edge 1 (omega arith)))

tail_kept : (i : ℕ) → i < 3 → Kept (order tail) i
tail_kept =
    below_three (λ (i : ℕ). Kept (order tail) i)
    (record { origin = 1; around = tail_around; reach = one (tail_edge 2 (omega arith)) })
    (record { origin = 1; around = tail_around; reach = tail_around })
    (record { origin = 1; around = tail_around; reach = one (tail_edge 0 (omega arith)) })

-- back from 0 one meets 1, then 2, then 1 again
tail_back : (e : ℕ) → e < 3 → Back (order tail) (at (three 2 1 0) e) (at (three 1 2 1) e)
unfolding none_lower every ◌and◌ ◌or◌ neg
tail_back =
    below_three (λ (e : ℕ). Back (order tail) (at (three 2 1 0) e) (at (three 1 2 1) e))
    (back_is (order tail) 2 1 0 (tail_kept 1 (omega arith)) (omega arith) (omega arith) refl refl refl)
    (back_is (order tail) 1 2 1 (tail_kept 2 (omega arith)) (omega arith) (omega arith) refl refl refl)
    (back_is (order tail) 0 1 2 (tail_kept 1 (omega arith)) (omega arith) (omega arith) refl refl refl)

pub tail_shown : Shown (order tail) (two_starts 1 2)
tail_shown = record {
  met = three 0 1 2;
  twice = 1;
  trail = record {
    start = record { inside = omega arith; holds = tail_kept 0 (omega arith); none_before = λ k l. absurd (omega arith) };
    back = λ k l.
        below_two (λ (k : ℕ). Back (order tail) (at (three 0 1 2) k) (at (three 0 1 2) (k + 1))) (tail_back 2 (omega arith)) (tail_back 1 (omega arith))
        k (omega arith);
    apart = apart_three 0 1 2 (λ e. omega arith) (λ e. omega arith) (λ e. omega arith);
    inside = omega arith;
    again = tail_back 0 (omega arith);
  };
  place = 1;
  inside = omega arith;
  is = refl;
  lowest = below_two (λ (k : ℕ). 1 ≤ at (two_starts 1 2) k) (omega arith) (omega arith);
}
