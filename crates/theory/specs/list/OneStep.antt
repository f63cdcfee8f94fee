-- The rule at one step, taken apart: each test as a fact, who changes and who stays, and how many of a type start. For every state.
use Rattle.std.specs.Prelude.{◌≡◌, refl, ◌⊎◌, Bool, true, false, List, ℕ, ◌+◌, ◌-◌, ◌≤◌, ◌<◌, min, max, eqb, length}
use Rattle.std.proofs.Math.Path.{sym, ap}
use Rattle.std.proofs.Common.{◌∙◌, inl, inr}
use Rattle.std.proofs.Math.Logic.{⊎_elim}
use native.Mathlib.Omega.{arith}
use Rattle.std.proofs.Math.Dec.{ltb}
use borrow.Author.Tests.{eq-eqb, eqb-true, lt-ltb, ltb-true, le-leb, leb-true}
use Rattle.maths.specs.Cases.{lt_or_le}
use Rattle.maths.specs.Tests.{◌and◌, two, clash, off, same_test, and_true, and_left, and_right, or_left, or_right, or_cases, neg_true, neg_false}
use Rattle.maths.specs.Rows.{at, tabulate_long, tabulate_at, past}
use Rattle.maths.specs.Count.{count}
use Rattle.maths.specs.Counting.{count_same, count_cover, count_zero, count_nowhere, Linear, rank, firsts}
use Rattle.model.specs.Order.{source, target}
use Rattle.model.specs.Graph.{Graph, order, many, edges_of, delay, busy_time, type_of}
use Rattle.model.specs.Use.{runs}
use Rattle.model.specs.Rule.{placed, Finished, Candidate, finished, blocks, candidate, in_use, ahead, candidates_ahead, starts_now, pick_start, stepped}

-- ---- the tests as facts
-- i is placed, of type k and running at step l
pub record Uses (g : Graph) (t : List ℕ) (k l i : ℕ) : Type 0 where
  pub placed : 1 ≤ at t i
  pub kind : type_of g i ≡ k
  pub begun : at t i ≤ l
  pub going : l < at t i + busy_time g i

-- i starts: a candidate, and those running and those before it leave it a unit
pub record Starts (g : Graph) (labels units t : List ℕ) (l i : ℕ) : Type 0 where
  pub inside : i < many g
  pub may : candidate g t l i ≡ true
  pub room : in_use g t (type_of g i) l + candidates_ahead g labels t l i < at units (type_of g i)

-- the test that inUse counts
abbrev pub uses : Graph → List ℕ → ℕ → ℕ → ℕ → Bool
uses g t k l i = placed t i and runs g t k l i

module _ (g : Graph) (t : List ℕ) (l : ℕ) where
  pub finished_is : (i : ℕ) → finished g t l i ≡ true → Finished g t l i
  unfolding finished
  finished_is i h = record {
    placed = ltb-true 0 (at t i) (and_left _ _ h);
    ended = leb-true (at t i + delay g i) l (and_right _ _ h);
  }

  pub is_finished : (i : ℕ) → Finished g t l i → finished g t l i ≡ true
  unfolding finished
  is_finished i h = and_true (lt-ltb 0 (at t i) h.placed) (le-leb (at t i + delay g i) l h.ended)

  pub uses_is : (k i : ℕ) → uses g t k l i ≡ true → Uses g t k l i
  unfolding runs
  uses_is k i h =
      let r = and_right _ _ h in
      let w = and_right _ _ r in
      record {
        placed = ltb-true 0 (at t i) (and_left _ _ h);
        kind = eqb-true (type_of g i) k (and_left _ _ r);
        begun = leb-true (at t i) l (and_left _ _ w);
        going = ltb-true l (at t i + busy_time g i) (and_right _ _ w);
      }

  pub is_uses : (k i : ℕ) → Uses g t k l i → uses g t k l i ≡ true
  unfolding runs
  is_uses k i h =
      and_true (lt-ltb 0 (at t i) h.placed)
      (and_true (eq-eqb (type_of g i) k h.kind)
      (and_true (le-leb (at t i) l h.begun) (lt-ltb l (at t i + busy_time g i) h.going)))

  pub candidate_is : (i : ℕ) → candidate g t l i ≡ true → Candidate g t l i
  unfolding candidate blocks
  candidate_is i h = record {
    unplaced = eqb-true (at t i) 0 (and_left _ _ h);
    ready = λ e b q.
        finished_is (source (order g) e)
        (⊎_elim
        (λ yes. yes)
        (λ not.
        absurd
        (count_nowhere (blocks g t l i) (edges_of g) e (eqb-true (count (blocks g t l i) (edges_of g)) 0 (and_right _ _ h)) b
        (and_true (eq-eqb (target (order g) e) i q) (neg_true not))))
        (two (finished g t l (source (order g) e))));
  }

  pub is_candidate : (i : ℕ) → Candidate g t l i → candidate g t l i ≡ true
  unfolding candidate blocks
  is_candidate i h =
      and_true (eq-eqb (at t i) 0 h.unplaced)
      (eq-eqb (count (blocks g t l i) (edges_of g)) 0
      (count_zero (blocks g t l i) (edges_of g)
      (λ e b q.
      clash
      (is_finished (source (order g) e) (h.ready e b (eqb-true (target (order g) e) i (and_left _ _ q))))
      (neg_false _ (and_right _ _ q)))))

-- ---- the order of priority
-- a larger label, or the same label and a lower number
Ahead : List ℕ → ℕ → ℕ → Type 0
Ahead labels j i = (at labels i < at labels j) ⊎ ((at labels j ≡ at labels i) × (j < i))

ahead_is : (labels : List ℕ) (j i : ℕ) → ahead labels j i ≡ true → Ahead labels j i
unfolding ahead Ahead
ahead_is labels j i h =
    ⊎_elim
    (λ e. inl (ltb-true (at labels i) (at labels j) e))
    (λ e. inr (eqb-true (at labels j) (at labels i) (and_left _ _ e), ltb-true j i (and_right _ _ e)))
    (or_cases (ltb (at labels i) (at labels j)) (eqb (at labels j) (at labels i) and ltb j i) h)

is_ahead : (labels : List ℕ) (j i : ℕ) → Ahead labels j i → ahead labels j i ≡ true
unfolding ahead Ahead
is_ahead labels j i (inl h) = or_left _ (lt-ltb (at labels i) (at labels j) h)
is_ahead labels j i (inr h) =
    or_right (ltb (at labels i) (at labels j)) (and_true (eq-eqb (at labels j) (at labels i) h.0) (lt-ltb j i h.1))

pub ahead_linear : (labels : List ℕ) → Linear (ahead labels)
unfolding Ahead
ahead_linear labels = record {
  never_itself = λ i.
      off (ahead labels i i) (λ h. ⊎_elim (λ e. omega arith) (λ e. omega (arith, e.1)) (ahead_is labels i i h));
  onward = λ i j k p q.
      is_ahead labels i k
      (⊎_elim
      (λ a. ⊎_elim (λ b. inl (omega arith)) (λ b. inl (omega (arith, b.0))) (ahead_is labels j k q))
      (λ a.
      ⊎_elim
      (λ b. inl (omega (arith, a.0)))
      (λ b. inr (omega (arith, a.0, b.0), omega (arith, a.1, b.1)))
      (ahead_is labels j k q))
      (ahead_is labels i j p));
  either = λ i j n.
      ⊎_elim
      (λ a. inr (is_ahead labels j i (inl a)))
      (λ a.
      ⊎_elim
      (λ b. inl (is_ahead labels i j (inl b)))
      (λ b.
      ⊎_elim
      (λ c. inl (is_ahead labels i j (inr (omega arith, c))))
      (λ c. inr (is_ahead labels j i (inr (omega arith, omega arith))))
      (lt_or_le i j))
      (lt_or_le (at labels j) (at labels i)))
      (lt_or_le (at labels i) (at labels j));
}

-- who is ahead goes by the keys of the two alone
pub ahead_same : (a b : List ℕ) (j i : ℕ) → at a j ≡ at b j → at a i ≡ at b i → ahead a j i ≡ ahead b j i
unfolding ahead
ahead_same a b j i p q = rw (p, q)

-- ---- who starts, and what changes
module _ (g : Graph) (labels units t : List ℕ) (l : ℕ) where
  pub starts_is : (i : ℕ) → starts_now g labels units t l i ≡ true → Starts g labels units t l i
  unfolding starts_now
  starts_is i h = record {
    inside = ltb-true i (many g) (and_left _ _ h);
    may = and_left _ _ (and_right _ _ h);
    room = ltb-true (in_use g t (type_of g i) l + candidates_ahead g labels t l i) (at units (type_of g i)) (and_right _ _ (and_right _ _ h));
  }

  pub is_starts : (i : ℕ) → Starts g labels units t l i → starts_now g labels units t l i ≡ true
  unfolding starts_now
  is_starts i h =
      and_true (lt-ltb i (many g) h.inside)
      (and_true h.may (lt-ltb (in_use g t (type_of g i) l + candidates_ahead g labels t l i) (at units (type_of g i)) h.room))

  pub starts_unplaced : (i : ℕ) → starts_now g labels units t l i ≡ true → at t i ≡ 0
  starts_unplaced i h = (candidate_is g t l i (starts_is i h).may).unplaced

  pub stepped_long : length (stepped g labels units t l) ≡ length t
  unfolding stepped
  stepped_long = tabulate_long (λ i. pick_start (starts_now g labels units t l i) l (at t i)) (length t)

  -- what starts, starts at l
  pub starts_at : (i : ℕ) → i < length t → starts_now g labels units t l i ≡ true → at (stepped g labels units t l) i ≡ l
  unfolding stepped
  starts_at i b h =
      tabulate_at (λ i. pick_start (starts_now g labels units t l i) l (at t i)) (length t) i b
      ∙ ap (λ (now : Bool). pick_start now l (at t i)) h

  -- the rest stays
  pub stays_at : (i : ℕ) → starts_now g labels units t l i ≡ false → at (stepped g labels units t l) i ≡ at t i
  unfolding stepped
  stays_at i h =
      ⊎_elim
      (λ b.
      tabulate_at (λ i. pick_start (starts_now g labels units t l i) l (at t i)) (length t) i b
      ∙ ap (λ (now : Bool). pick_start now l (at t i)) h)
      (λ b. past (stepped g labels units t l) i (omega (arith, stepped_long)) ∙ sym (past t i b))
      (lt_or_le i (length t))

  -- an operation is as it was, or starts now
  pub changed : (i : ℕ) → many g ≤ length t
      → (at (stepped g labels units t l) i ≡ at t i) ⊎ ((starts_now g labels units t l i ≡ true) × (at (stepped g labels units t l) i ≡ l))
  changed i wide =
      ⊎_elim
      (λ h. inr (h, starts_at i (omega (arith, (starts_is i h).inside)) h))
      (λ h. inl (stays_at i h))
      (two (starts_now g labels units t l i))

  -- what is placed stays
  pub kept : (i : ℕ) → 1 ≤ at t i → at (stepped g labels units t l) i ≡ at t i
  kept i p = stays_at i (off _ (λ h. omega (arith, starts_unplaced i h)))

  -- entries from n on stay
  pub rest_stays : (i : ℕ) → many g ≤ i → at (stepped g labels units t l) i ≡ at t i
  rest_stays i p = stays_at i (off _ (λ h. omega (arith, (starts_is i h).inside)))

-- ---- how many start
-- a candidate of type k
abbrev pub typed : Graph → List ℕ → ℕ → ℕ → ℕ → Bool
typed g t l k i = candidate g t l i and eqb (type_of g i) k

-- candidates of type k from the front of the order: with one, all that come before it
pub record Front (g : Graph) (labels t : List ℕ) (l k : ℕ) (c : ℕ → Bool) : Type 0 where
  pub kind : (i : ℕ) → c i ≡ true → typed g t l k i ≡ true
  pub before : (i j : ℕ) → c i ≡ true → typed g t l k j ≡ true → ahead labels j i ≡ true → c j ≡ true

module _ (g : Graph) (labels units t : List ℕ) (l k : ℕ) (c : ℕ → Bool) (front : Front g labels t l k c) where
  kind_is : (i : ℕ) → c i ≡ true → type_of g i ≡ k
  kind_is i h = eqb-true (type_of g i) k (and_right _ _ (front.kind i h))

  -- those before one of them are among them
  front_rank : (i : ℕ) → c i ≡ true → candidates_ahead g labels t l i ≡ rank c (ahead labels) (many g) i
  front_rank i h =
      let e = kind_is i h in
      count_same (λ j. candidate g t l j and (eqb (type_of g j) (type_of g i) and ahead labels j i)) (λ j. c j and ahead labels j i) (many g)
      (λ j b.
      same_test _ _
      (λ x.
      let a = and_right _ _ (and_right _ _ x) in
      and_true
      (front.before i j h
      (and_true (and_left _ _ x) (eq-eqb (type_of g j) k (eqb-true (type_of g j) (type_of g i) (and_left _ _ (and_right _ _ x)) ∙ e))) a)
      a)
      (λ x.
      let y = and_left _ _ x in
      and_true (and_left _ _ (front.kind j y))
      (and_true (eq-eqb (type_of g j) (type_of g i) (kind_is j y ∙ sym e)) (and_right _ _ x))))

  free : ℕ
  free = at units k - in_use g t k l

  front_starts : (i : ℕ) → i < many g → c i and starts_now g labels units t l i ≡ c i and ltb (rank c (ahead labels) (many g) i) free
  unfolding free
  front_starts i b =
      same_test _ _
      (λ x.
      let h = and_left _ _ x in
      let e = kind_is i h in
      and_true h
      (lt-ltb (rank c (ahead labels) (many g) i) (at units k - in_use g t k l)
      (omega (
        arith,
        (starts_is g labels units t l i (and_right _ _ x)).room,
        front_rank i h,
        ap (λ (k : ℕ). in_use g t k l) e,
        ap (at units) e,
      ))))
      (λ x.
      let h = and_left _ _ x in
      let e = kind_is i h in
      and_true h
      (is_starts g labels units t l i
      (record {
        inside = b;
        may = and_left _ _ (front.kind i h);
        room = omega (
          arith,
          ltb-true (rank c (ahead labels) (many g) i) (at units k - in_use g t k l) (and_right _ _ x),
          front_rank i h,
          ap (λ (k : ℕ). in_use g t k l) e,
          ap (at units) e,
        );
      })))

  -- as many of them start as there are units free, or as they are
  pub front_filled : count (λ i. c i and starts_now g labels units t l i) (many g) ≡ min (at units k - in_use g t k l) (count c (many g))
  unfolding free
  front_filled =
      count_same (λ i. c i and starts_now g labels units t l i) (λ i. c i and ltb (rank c (ahead labels) (many g) i) free) (many g) front_starts
      ∙ firsts (many g) c (ahead labels) (ahead_linear labels) free

-- of type k and starting
abbrev pub starter : Graph → List ℕ → List ℕ → List ℕ → ℕ → ℕ → ℕ → Bool
starter g labels units t l k i = typed g t l k i and starts_now g labels units t l i

module _ (g : Graph) (labels units t : List ℕ) (l : ℕ) where
  pub is_starter : (i : ℕ) → starts_now g labels units t l i ≡ true → starter g labels units t l (type_of g i) i ≡ true
  is_starter i h = and_true (and_true (starts_is g labels units t l i h).may (eq-eqb (type_of g i) (type_of g i) refl)) h

  pub filled : (k : ℕ) → count (starter g labels units t l k) (many g) ≡ min (at units k - in_use g t k l) (count (typed g t l k) (many g))
  filled k = front_filled g labels units t l k (typed g t l k) (record { kind = λ i h. h; before = λ i j a b h. b })

  pub running_next : many g ≤ length t → (k : ℕ)
      → in_use g (stepped g labels units t l) k l ≤ in_use g t k l + count (starter g labels units t l k) (many g)
  running_next wide k =
      count_cover (uses g (stepped g labels units t l) k l) (uses g t k l) (starter g labels units t l k) (many g)
      (λ i b h.
      let u = uses_is g (stepped g labels units t l) l k i h in
      ⊎_elim
      (λ e.
      inl
      (is_uses g t l k i
      (record {
        placed = omega (arith, u.placed);
        kind = u.kind;
        begun = omega (arith, u.begun);
        going = omega (arith, u.going);
      })))
      (λ w.
      inr
      (and_true (and_true (starts_is g labels units t l i w.0).may (eq-eqb (type_of g i) k u.kind)) w.0))
      (changed g labels units t l i wide))

  -- never more in use than there are units, or than there were in use
  pub units_kept : many g ≤ length t → (k : ℕ) → in_use g (stepped g labels units t l) k l ≤ max (at units k) (in_use g t k l)
  units_kept wide k = omega (arith, running_next wide k, filled k)
