-- What a placing says of its order: it is the only one and there is one; what it leaves is what a cycle reaches; whole, it is the earliest starts.
use Rattle.std.specs.Prelude.{◌≡◌, refl, ◌⊎◌, List, ℕ, zero, suc, ◌+◌, ◌*◌, ◌≤◌, ◌<◌, length, set, replicate}
use Rattle.std.proofs.Common.{sym, ap, subst, ◌∙◌, inl, inr, ⊎_elim, eq-zero-or-pos, le_refl, add-one, arith, length-set, get_or-set_same, get_or-set_other}
use Rattle.std.proofs.lemmas.List.{length-replicate}
use Rattle.maths.specs.Cases.{same_or_not, lt_or_le}
use Rattle.maths.specs.Rows.{at, blank, same_row}
use Rattle.maths.specs.Count.{marks, marks_lt, marks_full, marks_set}
use Rattle.maths.specs.Lowest.{Found, None, find}
use Rattle.model.specs.Limits as limit
use Rattle.model.specs.Order.{Order, size, edge_count, weight, source, target, Closed, Edge, Walk, one, more, Cyclic, Kept}
use Rattle.model.specs.Placing.{MayStart, StartsAt, Waits, Placing}
use Rattle.model.specs.Tables.{Keeps, Earliest}
use Rattle.theory.specs.order.KeptOperations.{kept_inside}
use Rattle.theory.specs.order.PlacingSteps.{Seen, seen_none, seen_other, seen_step, seen_end, later, Part, part_none, part_more, part_low, part_whole, more_set}

-- the edge that an operation waits for
waited : {o : Order} {s : List ℕ} {i : ℕ} (x : Waits o s i) → Edge o (source o x.edge) i
waited x = record { number = x.edge; inside = x.inside; leaves = refl; enters = x.enters }

-- in a row that keeps the order each start is possible
keeps_may : {o : Order} {u : List ℕ} → Keeps o u → (i : ℕ) → i < size o → MayStart o u i (at u i)
keeps_may {o} {u} k i l = record { from_one = k.from_one i l; after = λ e y t. omega (arith, k.edges e y, ap (at u) t) }

module _ {heaviest : ℕ} {o : Order} {s : List ℕ} {r : ℕ} (c : Closed heaviest o) (p : Placing o s r) where
  -- what is placed is an operation
  placed_inside : (i : ℕ) → 1 ≤ at s i → i < size o
  placed_inside i m = ⊎_elim (λ l. l) (λ l. absurd (omega (arith, p.rest i l))) (lt_or_le i (size o))

  -- along an edge to a placed operation the starts rise
  edge_rises : {i j : ℕ} → Edge o i j → 1 ≤ at s j → (1 ≤ at s i) × (at s i < at s j)
  edge_rises {i} {j} k m =
      let d = p.starts j (placed_inside j m) m in
      let same = ap (at s) k.leaves in
      let ready = d.ready k.number k.inside k.enters in
      let after = d.may.after k.number k.inside k.enters in
      let positive = c.positive (source o k.number) (c.source_in k.number k.inside) in
      (omega arith, omega arith)

  -- and so along a walk
  walk_rises : {i j : ℕ} → Walk o i j → 1 ≤ at s j → (1 ≤ at s i) × (at s i < at s j)
  walk_rises (one k) m = edge_rises k m
  walk_rises (more k x) m =
      let a = walk_rises x m in
      let b = edge_rises k a.0 in
      (b.0, omega arith)

  -- no start is left to what a cycle reaches: it would lie before itself
  pub placing_free : (i : ℕ) → Kept o i → at s i ≡ 0
  placing_free i k =
      ⊎_elim
      (λ z. z)
      (λ m. let a = walk_rises k.reach m in let b = walk_rises k.around a.0 in absurd (omega arith))
      (eq-zero-or-pos (at s i))

  -- x is not placed, and walks to each marked operation, i among them: go back along the edges until a marked one comes again
  back : (i fuel x : ℕ) (m : List ℕ) → x < size o → at s x ≡ 0 → length m ≡ size o → 1 ≤ at m i
      → ((y : ℕ) → 1 ≤ at m y → Walk o x y) → size o ≤ marks m (size o) + fuel → Kept o i
  back i zero x m l z long mi walks full =
      ⊎_elim
      (λ q. absurd (omega (arith, marks_lt m (size o) x l q)))
      (λ q. record { origin = x; around = walks x q; reach = walks i mi })
      (eq-zero-or-pos (at m x))
  back i (suc fuel) x m l z long mi walks full =
      ⊎_elim
      (λ q.
      let v = p.waits x l z in
      let b : x < length m = omega arith in
      let apart : i ≡ x → ⊥ = λ r. absurd (omega (arith, ap (at m) r)) in
      back i fuel (source o v.edge) (set m x 1) (c.source_in v.edge v.inside) v.unplaced (length-set m x 1 ∙ long)
      (rw (get_or-set_other m x i 1 0 apart) mi)
      (λ y w.
      ⊎_elim
      (λ r. rw r (one (waited v)))
      (λ n. more (waited v) (walks y (rw (get_or-set_other m x y 1 0 n) at w)))
      (same_or_not y x))
      (omega (arith, marks_set m (size o) x 1 l b q (le_refl 1))))
      (λ q. record { origin = x; around = walks x q; reach = walks i mi })
      (eq-zero-or-pos (at m x))

  -- what is not placed is reached by a cycle
  pub placing_kept : (i : ℕ) → i < size o → at s i ≡ 0 → Kept o i
  placing_kept i l z =
      let v = p.waits i l z in
      let m : List ℕ = replicate (size o) 0 in
      let long : length m ≡ size o = length-replicate {A = ℕ} (size o) 0 in
      let b : i < length m = omega arith in
      back i (size o) (source o v.edge) (set m i 1) (c.source_in v.edge v.inside) v.unplaced (length-set m i 1 ∙ long)
      (rw (get_or-set_same m i 1 0 b) (le_refl 1))
      (λ y w.
      ⊎_elim
      (λ r. rw r (one (waited v)))
      (λ n. absurd (omega (arith, get_or-set_other m i y 1 0 n, blank (size o) y)))
      (same_or_not y i))
      (omega arith)

  -- placed in whole, nothing is left
  placed_all : r ≡ size o → (i : ℕ) → i < size o → 1 ≤ at s i
  placed_all e i l = ⊎_elim (λ z. absurd (omega (arith, p.counts, marks_lt s (size o) i l z))) (λ m. m) (eq-zero-or-pos (at s i))

  -- a row in which each start is possible has none earlier, as far as s has starts
  below : (u : List ℕ) → ((i : ℕ) → i < size o → 1 ≤ at s i → MayStart o u i (at u i)) → (n i : ℕ) → i < size o → at s i ≤ n → at s i ≤ at u i
  below u may zero i l m = omega arith
  below u may (suc n) i l m =
      ⊎_elim
      (λ z. omega arith)
      (λ q.
      let d = p.starts i l q in
      let x = may i l q in
      d.least (at u i)
      (record {
        from_one = x.from_one;
        after = λ e y t.
            let positive = c.positive (source o e) (c.source_in e y) in
            let after = d.may.after e y t in
            let earlier = below u may n (source o e) (c.source_in e y) (omega arith) in
            omega (arith, x.after e y t);
      }))
      (eq-zero-or-pos (at s i))

  -- placed in whole, the starts are the earliest
  pub placing_done : r ≡ size o → Earliest o s
  placing_done e = record {
    keeps = record {
      from_one = placed_all e;
      edges = λ k l. (p.starts (target o k) (c.target_in k l) (placed_all e (target o k) (c.target_in k l))).may.after k l refl;
    };
    least = λ u k i l. below u (λ j m q. keeps_may k j m) (at s i) i l (le_refl (at s i));
  }

  -- placed in whole, there is no cycle
  pub placing_acyclic : r ≡ size o → Cyclic o → ⊥
  placing_acyclic e y =
      let k : Kept o y.operation = record { origin = y.operation; around = y.around; reach = y.around } in
      let placed = placed_all e y.operation (kept_inside c k) in
      let free = placing_free y.operation k in
      omega arith

  -- else there is a lowest that is not placed
  pub placing_unplaced : (r ≡ size o → ⊥) → Found (λ i. at s i ≡ 0) (size o)
  placing_unplaced n =
      ⊎_elim
      (λ f. f)
      (λ f. absurd (n (p.counts ∙ marks_full s (size o) (λ i l. ⊎_elim (λ z. absurd (f i l z)) (λ m. m) (eq-zero-or-pos (at s i))))))
      (find (λ i. at s i ≡ 0) (size o) (λ i l. same_or_not (at s i) 0))

  -- and a cycle
  pub placing_cyclic : (r ≡ size o → ⊥) → Cyclic o
  placing_cyclic n =
      let f = placing_unplaced n in
      let k = placing_kept f.place f.lowest.inside f.lowest.holds in
      record { operation = k.origin; around = k.around }

module _ {heaviest : ℕ} {o : Order} (c : Closed heaviest o) where
  -- one placing's starts are no later than another's
  no_later : {s s' : List ℕ} {r r' : ℕ} → Placing o s r → Placing o s' r' → (i : ℕ) → i < size o → at s i ≤ at s' i
  no_later {s} {s'} p p' i l =
      below c p s'
      (λ j m q.
      (p'.starts j m
      (⊎_elim (λ z. absurd (omega (arith, placing_free c p j (placing_kept c p' j m z)))) (λ w. w) (eq-zero-or-pos (at s' j)))
      ).may)
      (at s i) i l (le_refl (at s i))

  -- there is one placing at most: the same are left over, and each start is the first possible
  pub placing_one : {s s' : List ℕ} {r r' : ℕ} → Placing o s r → Placing o s' r' → (s ≡ s') × (r ≡ r')
  placing_one {s} {s'} p p' =
      let each : (i : ℕ) → i < length s → at s i ≡ at s' i =
      λ i _.
      ⊎_elim
      (λ l. omega (arith, no_later p p' i l, no_later p' p i l))
      (λ l. p.rest i l ∙ sym (p'.rest i l))
      (lt_or_le i (size o)) in
      let same : s ≡ s' = same_row s s' (p.long ∙ sym p'.long) each in
      (same, p.counts ∙ ap (λ (l : List ℕ). marks l (size o)) same ∙ sym p'.counts)

-- a placing of an order, in which no start is above what all operations can add up to
pub record SomePlacing (heaviest : ℕ) (o : Order) : Type 0 where
  pub row : List ℕ
  pub number : ℕ
  pub is : Placing o row number
  pub low : (i : ℕ) → at row i ≤ 1 + heaviest * size o

-- the first step that the edges below e allow i
record Allowed (o : Order) (s : List ℕ) (i e : ℕ) : Type 0 where
  step : ℕ
  seen : Seen o s i e step

-- i is not placed, and waits for none
record Next (o : Order) (s : List ℕ) (i : ℕ) : Type 0 where
  free : at s i ≡ 0
  step : ℕ
  starts : StartsAt o s i step

module _ {o : Order} where
  -- edge by edge
  allowed : (s : List ℕ) (i e : ℕ) → e ≤ edge_count o → Allowed o s i e
  allowed s i zero l = record { step = 1; seen = seen_none }
  allowed s i (suc e) l =
      let a = allowed s i e (omega arith) in
      ⊎_elim
      (λ q.
      record {
        step = later a.step (at s (source o e)) (weight o (source o e));
        seen = rw (← add-one e) (seen_step a.step (at s (source o e)) a.seen (omega arith) q refl);
      })
      (λ n. record { step = a.step; seen = rw (← add-one e) (seen_other a.seen n) })
      (same_or_not (target o e) i)

  -- an operation that is not placed waits, or can be placed
  next_or_waits : (s : List ℕ) (i : ℕ) → at s i ≡ 0 → Next o s i ⊎ Waits o s i
  next_or_waits s i z =
      let a = allowed s i (edge_count o) (le_refl (edge_count o)) in
      let first = seen_end a.seen (le_refl (edge_count o)) in
      ⊎_elim
      (λ q. inr (first.waits q))
      (λ q. inl (record { free = z; step = a.step; starts = first.starts q }))
      (eq-zero-or-pos a.step)

  -- whether an operation can be placed is decided
  next_decided : (s : List ℕ) (i : ℕ) → Next o s i ⊎ (Next o s i → ⊥)
  next_decided s i =
      ⊎_elim
      (λ z.
      ⊎_elim
      (λ n. inl n)
      (λ x. inr (λ n. let y = n.starts.ready x.edge x.inside x.enters in let z = x.unplaced in omega arith))
      (next_or_waits s i z))
      (λ n. inr (λ x. n x.free))
      (same_or_not (at s i) 0)

  -- no operation can be placed any more
  whole : {heaviest : ℕ} (s : List ℕ) → Part heaviest o s → None (Next o s) (size o) → SomePlacing heaviest o
  whole {heaviest} s h none = record {
    row = s;
    number = marks s (size o);
    is = part_whole h (λ i l z. ⊎_elim (λ n. absurd (none i l n)) (λ x. x) (next_or_waits s i z)) refl;
    low = part_low h;
  }

module _ {heaviest : ℕ} {o : Order} (c : Closed heaviest o) where
  -- place the lowest that can be placed, again and again: each time fewer are left
  place_on : (fuel : ℕ) (s : List ℕ) → Part heaviest o s → size o ≤ marks s (size o) + fuel → SomePlacing heaviest o
  place_on zero s h full =
      whole s h (λ i l n. absurd (omega (arith, marks_lt s (size o) i l n.free)))
  place_on (suc fuel) s h full =
      ⊎_elim
      (λ f.
      let l = f.lowest.inside in
      let n = f.lowest.holds in
      let m = more_set c h l n.free n.starts in
      place_on fuel (set s f.place n.step) (part_more c h m) (omega (arith, m.counts)))
      (whole s h)
      (find (Next o s) (size o) (λ i l. next_decided s i))

  -- every order has a placing
  pub placing_exists : SomePlacing heaviest o
  placing_exists =
      let s : List ℕ = replicate limit.operations 0 in
      place_on (size o) s (part_none (length-replicate {A = ℕ} limit.operations 0) (blank limit.operations)) (omega arith)

  -- no start of a placing is above what all operations can add up to
  pub placing_low : {s : List ℕ} {r : ℕ} → Placing o s r → (i : ℕ) → at s i ≤ 1 + heaviest * size o
  placing_low p i =
      let q = placing_exists in
      subst (λ (s : List ℕ). at s i ≤ 1 + heaviest * size o) (placing_one c q.is p).0 (q.low i)
