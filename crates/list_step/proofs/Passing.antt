-- The pass in the order of priority: at its turn a candidate finds a unit left exactly when the rule starts it, by counting those that started before it.
use Rattle.std.specs.Prelude.{◌≡◌, refl, ◌⊎◌, Bool, true, false, List, ℕ, ◌+◌, ◌-◌, ◌≤◌, ◌<◌, min, eqb, ltb, length, set}
use Rattle.std.proofs.Common.{sym, ap, subst, ◌∙◌, inl, inr, ⊎_elim, length-set, get_or-set_same, get_or-set_other, ne_eqb, lt-ltb, le-ltb, ltb-true, arith}
use Rattle.maths.specs.Cases.{same_or_not, lt_or_le}
use Rattle.maths.specs.Tests.{◌and◌, two, same_test, and_true, and_left, and_right, and_left_false, and_right_false}
use Rattle.maths.specs.Rows.{at, same_row}
use Rattle.maths.specs.Count.{bit, count}
use Rattle.maths.specs.Counting.{sum_change_below, count_same, count_zero}
use Rattle.model.specs.Limits as limit
use Rattle.model.specs.Order.{source}
use Rattle.model.specs.Graph.{Graph, Sound, BusySound, order, many, type_of}
use Rattle.model.specs.Use.{runs}
use Rattle.model.specs.Rule.{Finished, candidate, in_use, ahead, candidates_ahead, starts_now, stepped}
use Rattle.theory.specs.list.OneStep.{uses, candidate_is, is_candidate, ahead_linear, starts_is, is_starts, starts_unplaced, stepped_long, starts_at, stays_at, rest_stays, typed, Front, front_filled, starter, is_starter}
use Rattle.model.specs.Scheduling.{Moves}
use Rattle.list_step.specs.CountsByValue.{CountsByValue}
use Rattle.list_step.specs.Turn.{uses_at}
use Rattle.list_step.specs.Priority.{rank_of, Priority}
use Rattle.list_step.specs.RankLaws.{TurnOf, turn, lower, before, one_rank, rank_inside}

-- i is a candidate, and of its type's units not all are used
abbrev takes_at : Graph → List ℕ → ℕ → ℕ → ℕ → ℕ → Bool
takes_at g t l i used units = candidate g t l i and ltb used units

-- what in_use tells of the starts t before the pass
used_counts : (g : Graph) (t : List ℕ) (l : ℕ) (used : List ℕ) → CountsByValue (at g.types) (uses_at g.busy t l) limit.kinds used (many g)
    → (k : ℕ) → k < limit.kinds → at used k ≡ in_use g t k l
unfolding runs
used_counts g t l used h k b =
    h.each k b
    ∙ count_same (λ i. eqb (type_of g i) k and uses_at g.busy t l i) (uses g t k l) (many g)
    (λ i u.
    same_test _ _
    (λ q.
    let r = and_right _ _ q in
    and_true (and_left _ _ r) (and_true (and_left _ _ q) (and_right _ _ r)))
    (λ q.
    let r = and_right _ _ q in
    and_true (and_left _ _ r) (and_true (and_left _ _ q) (and_right _ _ r))))

module _ (g : Graph) (labels units t : List ℕ) (l : ℕ) where
  -- of type k, starting, and of a rank below p
  unfoldable pub passed : ℕ → ℕ → ℕ → Bool
  passed k p j = starter g labels units t l k j and ltb (rank_of labels (many g) j) p

  -- ---- one turn
  module _ (p i : ℕ) (h : TurnOf labels (many g) p i) where
    ahead_typed : ℕ → Bool
    ahead_typed j = typed g t l (type_of g i) j and ahead labels j i

    ahead_front : Front g labels t l (type_of g i) ahead_typed
    unfolding ahead_typed
    ahead_front = record {
      kind = λ j q. and_left _ _ q;
      before = λ j m q c a. and_true c ((ahead_linear labels).onward m j i a (and_right _ _ q));
    }

    -- those that have started are the starting ones before i
    passed_ahead : count (passed (type_of g i) p) (many g) ≡ count (λ j. ahead_typed j and starts_now g labels units t l j) (many g)
    unfolding passed ahead_typed
    passed_ahead =
        count_same (passed (type_of g i) p) (λ j. ahead_typed j and starts_now g labels units t l j) (many g)
        (λ j u.
        same_test _ _
        (λ q.
        let s = and_left _ _ q in
        and_true
        (and_true (and_left _ _ s)
        (before labels (many g) j i h.inside (omega (arith, h.is, ltb-true (rank_of labels (many g) j) p (and_right _ _ q)))))
        (and_right _ _ s))
        (λ q.
        let a = and_left _ _ q in
        and_true (and_true (and_left _ _ a) (and_right _ _ q))
        (lt-ltb (rank_of labels (many g) j) p (omega (arith, h.is, lower labels (many g) j i u (and_right _ _ a))))))

    ahead_count : count ahead_typed (many g) ≡ candidates_ahead g labels t l i
    unfolding ahead_typed
    ahead_count =
        count_same ahead_typed (λ j. candidate g t l j and (eqb (type_of g j) (type_of g i) and ahead labels j i)) (many g)
        (λ j u.
        same_test _ _
        (λ q.
        let c = and_left _ _ q in
        and_true (and_left _ _ c) (and_true (and_right _ _ c) (and_right _ _ q)))
        (λ q.
        let c = and_right _ _ q in
        and_true (and_true (and_left _ _ q) (and_left _ _ c)) (and_right _ _ c)))

    -- as many have started as there were units free, or candidates before i
    taken : count (passed (type_of g i) p) (many g) ≡ min (at units (type_of g i) - in_use g t (type_of g i) l) (candidates_ahead g labels t l i)
    taken =
        passed_ahead
        ∙ front_filled g labels units t l (type_of g i) ahead_typed ahead_front
        ∙ ap (min (at units (type_of g i) - in_use g t (type_of g i) l)) ahead_count

    -- so it takes a unit exactly when the rule starts it
    takes_starts : (used : ℕ) → used ≡ in_use g t (type_of g i) l + count (passed (type_of g i) p) (many g)
        → takes_at g t l i used (at units (type_of g i)) ≡ starts_now g labels units t l i
    takes_starts used u =
        same_test _ _
        (λ q.
        is_starts g labels units t l i
        (record {
          inside = h.inside;
          may = and_left _ _ q;
          room = omega (arith, taken, ltb-true used (at units (type_of g i)) (and_right _ _ q));
        }))
        (λ q.
        let s = starts_is g labels units t l i q in
        and_true s.may (lt-ltb used (at units (type_of g i)) (omega (arith, taken, s.room))))

    -- what starts joins its type's count, and no other
    passed_more : (k : ℕ) → count (passed k (p + 1)) (many g) ≡ count (passed k p) (many g) + bit (starter g labels units t l k i)
    unfolding passed
    passed_more k =
        let rank = rank_of labels (many g) in
        let old : passed k p i ≡ false = and_right_false (starter g labels units t l k i) (le-ltb (rank i) p (omega (arith, h.is))) in
        let new : passed k (p + 1) i ≡ starter g labels units t l k i =
        same_test _ _ (λ q. and_left _ _ q) (λ q. and_true q (lt-ltb (rank i) (p + 1) (omega (arith, h.is)))) in
        omega (
          arith,
          ap bit old,
          ap bit new,
          sum_change_below (λ j. bit (passed k p j)) (λ j. bit (passed k (p + 1) j)) (many g) i h.inside
              (λ j u n.
              ap bit
              (same_test (passed k p j) (passed k (p + 1) j)
              (λ q. and_true (and_left _ _ q) (lt-ltb (rank j) (p + 1) (omega (arith, ltb-true (rank j) p (and_right _ _ q)))))
              (λ q.
              let apart : rank j ≡ p → ⊥ = λ e. n (one_rank labels (many g) j i u h.inside (e ∙ sym h.is)) in
              and_true (and_left _ _ q) (lt-ltb (rank j) p (omega (arith, ltb-true (rank j) (p + 1) (and_right _ _ q))))))),
        )

-- ---- the loop
-- before turn p
pub record Passing (g : Graph) (units row t : List ℕ) (l : ℕ) (used x : List ℕ) (p : ℕ) : Type 0 where
  pub sound : Sound g
  pub whole : length t ≡ limit.operations
  pub priority : Priority g row
  pub within : p ≤ many g
  pub long : length x ≡ limit.operations
  pub long_used : length used ≡ limit.kinds
  pub done : (i : ℕ) → i < many g → rank_of priority.labels (many g) i < p → at x i ≡ at (stepped g priority.labels units t l) i
  pub todo : (i : ℕ) → i < many g → p ≤ rank_of priority.labels (many g) i → at x i ≡ at t i
  pub rest : (i : ℕ) → many g ≤ i → at x i ≡ at t i
  pub counts : (k : ℕ) → k < limit.kinds → at used k ≡ in_use g t k l + count (passed g priority.labels units t l k p) (many g)

pub passing_none : {g : Graph} {units row t : List ℕ} {l : ℕ} {used : List ℕ} → Sound g → BusySound g → length t ≡ limit.operations → Priority g row
    → CountsByValue (at g.types) (uses_at g.busy t l) limit.kinds used (length g.busy) → Passing g units row t l used t 0
unfolding passed
passing_none {g} {units} {row} {t} {l} {used} s busy long h b = record {
  sound = s;
  whole = long;
  priority = h;
  within = omega arith;
  long = long;
  long_used = b.long;
  done = λ i u r. absurd (omega arith);
  todo = λ i u r. refl;
  rest = λ i u. refl;
  counts = λ k u.
      omega (
        arith,
        used_counts g t l used (subst (CountsByValue (at g.types) (uses_at g.busy t l) limit.kinds used) busy.even b) k u,
        count_zero (passed g h.labels units t l k 0) (many g)
            (λ j v q. omega (arith, ltb-true (rank_of h.labels (many g) j) 0 (and_right _ _ q))),
      );
}

module _ {g : Graph} {units row t : List ℕ} {l : ℕ} {used x : List ℕ} {p : ℕ} (h : Passing g units row t l used x p) where
  -- the operation whose turn it is
  turn_of : p < many g → TurnOf h.priority.labels (many g) p (at row p)
  turn_of u = turn h.priority.labels (many g) row h.priority.ranked p u

  -- it is one of the operations
  pub turn_inside : {i : ℕ} → p < length g.types → i ≡ at row p → i < many g
  turn_inside more is = omega (arith, is, (turn_of (omega (arith, h.sound.even_types))).inside)

  operation_room : p < many g → at row p < limit.operations
  operation_room u = omega (arith, (turn_of u).inside, h.sound.few)

  kind_room : p < many g → type_of g (at row p) < limit.kinds
  kind_room u = omega (arith, h.sound.type_in (at row p) (turn_of u).inside, h.sound.few_kinds)

  -- an operation's start so far is the old one, or it started now
  so_far : (j : ℕ) → j < many g → (at x j ≡ at t j) ⊎ ((at x j ≡ l) × (at t j ≡ 0))
  so_far j b =
      let labels = h.priority.labels in
      ⊎_elim
      (λ r.
      let e = h.done j b r in
      ⊎_elim
      (λ yes.
      inr (
        e ∙ starts_at g labels units t l j (omega (arith, h.sound.few, h.whole)) yes,
        starts_unplaced g labels units t l j yes,
      ))
      (λ no. inl (e ∙ stays_at g labels units t l j no))
      (two (starts_now g labels units t l j)))
      (λ r. inl (h.todo j b r))
      (lt_or_le (rank_of labels (many g) j) p)

  -- what has started now is not over, and neither was it before: so the same operations are over
  over_same : (j : ℕ) → j < many g → (Finished g x l j → Finished g t l j) × (Finished g t l j → Finished g x l j)
  over_same j b =
      ⊎_elim
      (λ e. (
        λ o. record { placed = omega (arith, o.placed); ended = omega (arith, o.ended) },
        λ o. record { placed = omega (arith, o.placed); ended = omega (arith, o.ended) },
      ))
      (λ e. (
        λ o. absurd (omega (arith, o.ended, e.0, h.sound.delay_from j b)),
        λ o. absurd (omega (arith, o.placed, e.1)),
      ))
      (so_far j b)

  -- and an operation that has not had its turn is a candidate or not as before
  candidate_same : (i : ℕ) → i < many g → at x i ≡ at t i → candidate g x l i ≡ candidate g t l i
  candidate_same i b same =
      same_test _ _
      (λ q.
      let c = candidate_is g x l i q in
      is_candidate g t l i
      (record {
        unplaced = omega (arith, c.unplaced);
        ready = λ e m n. (over_same (source (order g) e) (h.sound.source_in e m)).0 (c.ready e m n);
      }))
      (λ q.
      let c = candidate_is g t l i q in
      is_candidate g x l i
      (record {
        unplaced = omega (arith, c.unplaced);
        ready = λ e m n. (over_same (source (order g) e) (h.sound.source_in e m)).1 (c.ready e m n);
      }))

  -- of the operation whose turn it is: its label's rank is p, and it has its old start still
  module _ (u : p < many g) where
    abbrev labels : List ℕ
    labels = h.priority.labels

    abbrev now : ℕ
    now = at row p

    abbrev kind : ℕ
    kind = type_of g now

    -- it takes a unit exactly when the rule starts it
    takes_now : takes_at g x l now (at used kind) (at units kind) ≡ starts_now g labels units t l now
    takes_now =
        let here = turn_of u in
        ap (λ (c : Bool). c and ltb (at used kind) (at units kind)) (candidate_same now here.inside (h.todo now here.inside (omega (arith, here.is))))
        ∙ takes_starts g labels units t l p now here (at used kind) (h.counts kind (kind_room u))

    -- the turn is over: its start is what the step leaves, and its type's counter has what started
    turned : (used' x' : List ℕ) → length used' ≡ limit.kinds → length x' ≡ limit.operations → at x' now ≡ at (stepped g labels units t l) now
        → ((j : ℕ) → (j ≡ now → ⊥) → at x' j ≡ at x j)
        → ((k : ℕ) → k < limit.kinds → at used' k ≡ at used k + bit (starter g labels units t l k now))
        → Passing g units row t l used' x' (p + 1)
    turned used' x' long_used long is others more =
        let n = many g in
        let here = turn_of u in
        let rank = rank_of labels n in
        record {
          sound = h.sound;
          whole = h.whole;
          priority = h.priority;
          within = omega arith;
          long = long;
          long_used = long_used;
          done = λ j b r.
              ⊎_elim
              (λ same. ap (at x') same ∙ is ∙ ap (at (stepped g labels units t l)) (sym same))
              (λ apart.
              let not : rank j ≡ p → ⊥ = λ z. apart (one_rank labels n j now b here.inside (z ∙ sym here.is)) in
              others j apart ∙ h.done j b (omega arith))
              (same_or_not j now);
          todo = λ j b r. others j (λ same. omega (arith, ap rank same, here.is)) ∙ h.todo j b (omega arith);
          rest = λ j b. others j (λ same. omega (arith, here.inside)) ∙ h.rest j b;
          counts = λ k b. omega (arith, more k b, h.counts k b, passed_more g labels units t l p now here k);
        }

    -- it starts: a candidate, and a unit of its type is left
    pub turn_starts : {new : ℕ} → new ≡ l → candidate g x l now ≡ true → at used kind < at units kind
        → Passing g units row t l (set used kind (at used kind + 1)) (set x now new) (p + 1)
    turn_starts {new} is may room =
        let yes : starts_now g labels units t l now ≡ true = sym takes_now ∙ and_true may (lt-ltb (at used kind) (at units kind) room) in
        let v = at used kind + 1 in
        let inside : now < length x = omega (arith, operation_room u, h.long) in
        turned (set used kind v) (set x now new) (length-set used kind v ∙ h.long_used) (length-set x now new ∙ h.long)
        (get_or-set_same x now new 0 inside ∙ is ∙ sym (starts_at g labels units t l now (omega (arith, operation_room u, h.whole)) yes))
        (λ j apart. get_or-set_other x now j new 0 apart)
        (λ k b.
        ⊎_elim
        (λ same.
        omega (
          arith,
          ap (at (set used kind v)) same,
          ap (at used) same,
          get_or-set_same used kind v 0 (omega (arith, h.long_used)),
          ap bit (subst (λ (m : ℕ). starter g labels units t l m now ≡ true) same (is_starter g labels units t l now yes)),
        ))
        (λ apart.
        let joins : starter g labels units t l k now ≡ false =
        and_left_false (starts_now g labels units t l now) (and_right_false (candidate g t l now) (ne_eqb kind k apart)) in
        omega (arith, get_or-set_other used kind k v 0 (λ z. apart (sym z)), ap bit joins))
        (same_or_not kind k))

    -- it stays: no candidate, or no unit of its type is left
    turn_stays : takes_at g x l now (at used kind) (at units kind) ≡ false → Passing g units row t l used x (p + 1)
    turn_stays not =
        let here = turn_of u in
        let no_start : starts_now g labels units t l now ≡ false = sym takes_now ∙ not in
        turned used x h.long_used h.long
        (h.todo now here.inside (omega (arith, here.is)) ∙ sym (stays_at g labels units t l now no_start))
        (λ j apart. refl)
        (λ k b.
        let joins : starter g labels units t l k now ≡ false = and_right_false (typed g t l k now) no_start in
        omega (arith, ap bit joins))

    pub turn_barred : candidate g x l now ≡ false → Passing g units row t l used x (p + 1)
    turn_barred e = turn_stays (and_left_false (ltb (at used kind) (at units kind)) e)

    pub turn_full : at units kind ≤ at used kind → Passing g units row t l used x (p + 1)
    turn_full e = turn_stays (and_right_false (candidate g x l now) (le-ltb (at used kind) (at units kind) e))

  -- after the last turn the starts are those of the step
  pub passing_end : many g ≤ p → Moves g units t l x (l + 1)
  passing_end last =
      let labels = h.priority.labels in
      record {
        labels = labels;
        are_labels = h.priority.are_labels;
        starts = same_row x (stepped g labels units t l) (h.long ∙ sym h.whole ∙ sym (stepped_long g labels units t l))
            (λ i u.
            ⊎_elim
            (λ b. h.done i b (omega (arith, rank_inside labels (many g) i b)))
            (λ b. h.rest i b ∙ sym (rest_stays g labels units t l i b))
            (lt_or_le i (many g)));
        further = refl;
      }
