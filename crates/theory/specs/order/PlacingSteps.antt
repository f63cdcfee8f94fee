-- How a placing grows: what is known of one operation after some edges, and what stays when more operations are placed.
use Rattle.std.specs.Prelude.{◌≡◌, refl, List, ℕ, zero, suc, ◌+◌, ◌*◌, ◌≤◌, ◌<◌, max, length, set}
use Rattle.std.proofs.Common.{sym, ap, subst, ◌∙◌, ⊎_elim, not-suc-le-zero, eq-zero-or-pos, mul-le-mul_left, mul-suc, arith, below_more, length-set, get_or-set_same, get_or-set_other}
use Rattle.maths.specs.Cases.{same_or_not, lt_or_le}
use Rattle.maths.specs.Rows.{at}
use Rattle.maths.specs.Count.{marks, marks_set, marks_le}
use Rattle.model.specs.Limits as limit
use Rattle.model.specs.Order.{Order, size, edge_count, weight, source, target, Closed}
use Rattle.model.specs.Placing.{MayStart, StartsAt, Waits, Placing}

-- the first step at which an operation may start after one edge more: 0 if it waits, or the edge's source is not placed
abbrev pub later : ℕ → ℕ → ℕ → ℕ
later zero start w = 0
later (suc v) zero w = 0
later (suc v) (suc start) w = max (suc v) (suc start + w)

-- v is 0 where i waits, and else the first step at which it may start
pub record FirstStep (o : Order) (s : List ℕ) (i v : ℕ) : Type 0 where
  pub waits : v ≡ 0 → Waits o s i
  pub starts : 1 ≤ v → StartsAt o s i v

-- what is known of i after the edges below e: v is 0 where i waits for one of them, and else the first step that they allow
pub record Seen (o : Order) (s : List ℕ) (i e v : ℕ) : Type 0 where
  pub waits : v ≡ 0 → Waits o s i
  pub ready : 1 ≤ v → (k : ℕ) → k < e → target o k ≡ i → 1 ≤ at s (source o k)
  pub after : 1 ≤ v → (k : ℕ) → k < e → target o k ≡ i → at s (source o k) + weight o (source o k) ≤ v
  pub least : (b : ℕ) → MayStart o s i b → v ≤ b

module _ {o : Order} {s : List ℕ} {i : ℕ} where
  -- before the first edge, step 1 is free
  pub seen_none : Seen o s i 0 1
  seen_none = record {
    waits = λ z. absurd (omega arith);
    ready = λ p k l. absurd (not-suc-le-zero l);
    after = λ p k l. absurd (not-suc-le-zero l);
    least = λ b h. h.from_one;
  }

  -- an edge that enters another operation
  pub seen_other : {e v : ℕ} → Seen o s i e v → (target o e ≡ i → ⊥) → Seen o s i (e + 1) v
  seen_other h n = record {
    waits = h.waits;
    ready = λ p. below_more _ _ (h.ready p) (λ q. absurd (n q));
    after = λ p. below_more _ _ (h.after p) (λ q. absurd (n q));
    least = h.least;
  }

  -- once i waits, no edge changes that
  waiting : {e : ℕ} → Waits o s i → Seen o s i e 0
  waiting x = record {
    waits = λ z. x;
    ready = λ p. absurd (not-suc-le-zero p);
    after = λ p. absurd (not-suc-le-zero p);
    least = λ b h. omega arith;
  }

  -- the source of the edge is placed: the step is raised to where it is over
  raised : {e v : ℕ} → Seen o s i e v → e < edge_count o → target o e ≡ i → 1 ≤ v → 1 ≤ at s (source o e)
      → Seen o s i (e + 1) (max v (at s (source o e) + weight o (source o e)))
  raised {e} {v} h l q p y = record {
    waits = λ x. absurd (omega arith);
    ready = λ x. below_more _ _ (h.ready p) (λ m. y);
    after = λ x. below_more _ _ (λ k m t. let a = h.after p k m t in omega arith) (λ m. omega arith);
    least = λ b m. omega (arith, h.least b m, m.after e l q);
  }

  -- an edge that enters i, from an operation with this start
  pub seen_step : {e : ℕ} (v start : ℕ) → Seen o s i e v → e < edge_count o → target o e ≡ i → start ≡ at s (source o e)
      → Seen o s i (e + 1) (later v start (weight o (source o e)))
  seen_step zero start h l q y = waiting (h.waits refl)
  seen_step {e} (suc v) zero h l q y = waiting (record { edge = e; inside = l; enters = q; unplaced = sym y })
  seen_step {e} (suc v) (suc start) h l q y =
      subst (λ (x : ℕ). Seen o s i (e + 1) (max (suc v) (x + weight o (source o e)))) (sym y) (raised h l q (omega arith) (omega arith))

  -- every edge is seen
  pub seen_end : {e v : ℕ} → Seen o s i e v → edge_count o ≤ e → FirstStep o s i v
  seen_end h l = record {
    waits = h.waits;
    starts = λ p. record {
      ready = λ k m. h.ready p k (omega arith);
      may = record { from_one = p; after = λ k m. h.after p k (omega arith) };
      least = h.least;
    };
  }

-- part of the order is placed: each start is the first possible, and none is above what as many operations as are placed can add up to
pub record Part (heaviest : ℕ) (o : Order) (s : List ℕ) : Type 0 where
  pub long : length s ≡ limit.operations
  pub starts : (i : ℕ) → i < size o → 1 ≤ at s i → StartsAt o s i (at s i)
  pub rest : (i : ℕ) → size o ≤ i → at s i ≡ 0
  pub low : (i : ℕ) → at s i ≤ 1 + heaviest * marks s (size o)

-- s has every start of s₀
pub record Grown (s₀ s : List ℕ) : Type 0 where
  pub kept : (i : ℕ) → 1 ≤ at s₀ i → at s i ≡ at s₀ i

-- from s₀ to s, r operations more are placed: each new start is the first possible while s₀ stands
pub record More (o : Order) (s₀ s : List ℕ) (r : ℕ) : Type 0 where
  pub long : length s ≡ length s₀
  pub grown : Grown s₀ s
  pub new : (i : ℕ) → i < size o → at s₀ i ≡ 0 → 1 ≤ at s i → StartsAt o s₀ i (at s i)
  pub rest : (i : ℕ) → size o ≤ i → at s i ≡ at s₀ i
  pub counts : marks s (size o) ≡ marks s₀ (size o) + r
  pub none : r ≡ 0 → (i : ℕ) → i < size o → at s₀ i ≡ 0 → at s i ≡ 0

-- so many times a weight, and once more
one_more : (weight a b : ℕ) → suc a ≤ b → weight * a + weight ≤ weight * b
one_more weight a b l = omega (arith, mul-le-mul_left weight l, mul-suc weight a)

-- a sum is no less than what it begins with
grows : (a b r : ℕ) → b ≡ a + r → a ≤ b
grows a b r e = omega arith

-- a first possible start stays one, as all that it reads is placed already
pub starts_grown : {o : Order} {s₀ s : List ℕ} {i b : ℕ} → Grown s₀ s → StartsAt o s₀ i b → StartsAt o s i b
starts_grown {o} {s₀} {s} {i} {b} g h = record {
  ready = λ e l q. omega (arith, h.ready e l q, g.kept (source o e) (h.ready e l q));
  may = record {
    from_one = h.may.from_one;
    after = λ e l q. omega (arith, h.may.after e l q, g.kept (source o e) (h.ready e l q));
  };
  least = λ c k.
      h.least c
      (record {
        from_one = k.from_one;
        after = λ e l q. omega (arith, k.after e l q, g.kept (source o e) (h.ready e l q));
      });
}

module _ {heaviest : ℕ} {o : Order} where
  -- nothing is placed
  pub part_none : {s : List ℕ} → length s ≡ limit.operations → ((i : ℕ) → at s i ≡ 0) → Part heaviest o s
  part_none long z = record {
    long = long;
    starts = λ i l p. absurd (omega (arith, z i));
    rest = λ i l. z i;
    low = λ i. omega (arith, z i);
  }

  module _ (c : Closed heaviest o) {s₀ s : List ℕ} {r : ℕ} (h : Part heaviest o s₀) (m : More o s₀ s r) where
    -- a new start lies at most the heaviest weight above what bounds the old ones
    top : {i b : ℕ} → StartsAt o s₀ i b → b ≤ 1 + heaviest * marks s₀ (size o) + heaviest
    top d =
        d.least (1 + heaviest * marks s₀ (size o) + heaviest)
        (record {
          from_one = omega arith;
          after = λ e l q. omega (arith, h.low (source o e), c.small (source o e) (c.source_in e l));
        })

    -- a start is new, or was there and stays the first possible
    starts_more : (i : ℕ) → i < size o → 1 ≤ at s i → StartsAt o s i (at s i)
    starts_more i l p =
        ⊎_elim
        (λ z. starts_grown m.grown (m.new i l z p))
        (λ q. rw (m.grown.kept i q) (starts_grown m.grown (h.starts i l q)))
        (eq-zero-or-pos (at s₀ i))

    -- a new start counts: r is not 0
    low_new : (i : ℕ) → i < size o → at s₀ i ≡ 0 → 1 ≤ at s i → at s i ≤ 1 + heaviest * marks s (size o)
    low_new i l z p =
        ⊎_elim
        (λ q. absurd (omega (arith, m.none q i l z)))
        (λ q. omega (arith, top (m.new i l z p), one_more heaviest (marks s₀ (size o)) (marks s (size o)) (omega (arith, m.counts))))
        (eq-zero-or-pos r)

    -- the bound rises with the count
    low_more : (i : ℕ) → at s i ≤ 1 + heaviest * marks s (size o)
    low_more i =
        ⊎_elim
        (λ z.
        ⊎_elim
        (λ l. ⊎_elim (λ y. omega arith) (low_new i l z) (eq-zero-or-pos (at s i)))
        (λ l. omega (arith, m.rest i l))
        (lt_or_le i (size o)))
        (λ q. omega (arith, m.grown.kept i q, h.low i, mul-le-mul_left heaviest (grows (marks s₀ (size o)) (marks s (size o)) r m.counts)))
        (eq-zero-or-pos (at s₀ i))

    -- what was placed keeps its place, and what is new has the first possible one
    pub part_more : Part heaviest o s
    part_more = record {
      long = m.long ∙ h.long;
      starts = starts_more;
      rest = λ i l. m.rest i l ∙ h.rest i l;
      low = low_more;
    }

  -- i alone is placed
  pub more_set : Closed heaviest o → {s : List ℕ} → Part heaviest o s → {i b : ℕ} → i < size o → at s i ≡ 0 → StartsAt o s i b → More o s (set s i b) 1
  more_set c {s} h {i} {b} l z d =
      let inside : i < length s = omega (arith, c.few, h.long) in
      let here : at (set s i b) i ≡ b = get_or-set_same s i b 0 inside in
      let other : (j : ℕ) → (j ≡ i → ⊥) → at (set s i b) j ≡ at s j = λ j n. get_or-set_other s i j b 0 n in
      record {
        long = length-set s i b;
        grown = record { kept = λ j p. other j (λ q. absurd (omega (arith, ap (at s) q))) };
        new = λ j m y p.
            ⊎_elim
            (λ q. subst (λ (k : ℕ). StartsAt o s k (at (set s i b) k)) (sym q) (rw here d))
            (λ n. absurd (omega (arith, other j n)))
            (same_or_not j i);
        rest = λ j m. other j (λ q. absurd (omega arith));
        counts = marks_set s (size o) i b l inside z d.may.from_one;
        none = λ y. absurd (omega arith);
      }

  -- no start is above what all operations can add up to
  pub part_low : {s : List ℕ} → Part heaviest o s → (i : ℕ) → at s i ≤ 1 + heaviest * size o
  part_low {s} h i = omega (arith, h.low i, mul-le-mul_left heaviest (marks_le s (size o)))

  -- where all that is left waits, the placing is whole
  pub part_whole : {s : List ℕ} {r : ℕ} → Part heaviest o s → ((i : ℕ) → i < size o → at s i ≡ 0 → Waits o s i) → r ≡ marks s (size o) → Placing o s r
  part_whole {s} h stuck e = record {
    long = h.long;
    starts = h.starts;
    waits = stuck;
    rest = h.rest;
    counts = e;
  }
