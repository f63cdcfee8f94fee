-- The list schedule has one value, and is there in time.
use Rattle.std.specs.Prelude.{◌≡◌, eqb, length, take}
use Rattle.std.proofs.Math.Path.{refl, ap}
use Rattle.std.proofs.Common.{sym, subst, ◌∙◌, eq-or-lt_of_le, le_of_suc-le-suc}
use Rattle.std.proofs.Math.Logic.{⊎_elim}
use mathlib.Core.List.{List}
use Prim.Native.Nat.{ℕ, zero, suc, ◌+◌, ◌*◌, ◌≤◌, ◌<◌}
use native.Mathlib.Omega.{arith}
use Rattle.maths.specs.Cases.{lt_or_le}
use Rattle.maths.specs.Tests.{◌and◌, two, same_test}
use Rattle.maths.specs.Rows.{at, same_row}
use Rattle.maths.specs.Sum.{sum_bound}
use Rattle.maths.specs.Counting.{count_same}
use Rattle.model.specs.Limits as limit
use Rattle.model.specs.Graph.{Graph, Sound, many, delay, type_of}
use Rattle.model.specs.Rule.{candidate, ahead, candidates_ahead, starts_now, stepped, AllPlaced, after, ListStarts}
use Rattle.theory.specs.list.LabelValues.{graph_labels_one}
use Rattle.theory.specs.list.OneStep.{ahead_same, starts_is, is_starts, starts_unplaced, stepped_long, starts_at, stays_at}
use Rattle.theory.specs.list.Progress.{Doable, all_delays, all_finished}

-- ---- one value
-- two rows of keys that agree on the operations
module _ (g : Graph) (a b units : List ℕ) (same : (i : ℕ) → i < many g → at a i ≡ at b i) where
  -- as many candidates come before an operation by either
  ahead_count : (t : List ℕ) (l i : ℕ) → i < many g → candidates_ahead g a t l i ≡ candidates_ahead g b t l i
  ahead_count t l i u =
      count_same (λ j. candidate g t l j and (eqb (type_of g j) (type_of g i) and ahead a j i))
      (λ j. candidate g t l j and (eqb (type_of g j) (type_of g i) and ahead b j i)) (many g)
      (λ j v. rw (ahead_same a b j i (same j v) (same i u)))

  starts_same : (t : List ℕ) (l i : ℕ) → starts_now g a units t l i ≡ starts_now g b units t l i
  starts_same t l i =
      same_test _ _
      (λ h.
      let s = starts_is g a units t l i h in
      is_starts g b units t l i (record { inside = s.inside; may = s.may; room = omega (arith, s.room, ahead_count t l i s.inside) }))
      (λ h.
      let s = starts_is g b units t l i h in
      is_starts g a units t l i (record { inside = s.inside; may = s.may; room = omega (arith, s.room, ahead_count t l i s.inside) }))

  -- the step is the same by either
  pub stepped_same : (t : List ℕ) (l : ℕ) → stepped g a units t l ≡ stepped g b units t l
  stepped_same t l =
      same_row (stepped g a units t l) (stepped g b units t l) (stepped_long g a units t l ∙ sym (stepped_long g b units t l))
      (λ i u.
      let inside : i < length t = omega (arith, stepped_long g a units t l) in
      ⊎_elim
      (λ h. starts_at g a units t l i inside h ∙ sym (starts_at g b units t l i inside (sym (starts_same t l i) ∙ h)))
      (λ h. stays_at g a units t l i h ∙ sym (stays_at g b units t l i (sym (starts_same t l i) ∙ h)))
      (two (starts_now g a units t l i)))

  pub after_same : (k : ℕ) → after g a units k ≡ after g b units k
  unfolding after
  after_same zero = refl
  after_same (suc k) =
      stepped_same (after g a units k) (k + 1) ∙ ap (λ (t : List ℕ). stepped g b units t (k + 1)) (after_same k)

module _ (g : Graph) (labels units : List ℕ) where
  -- a state with all placed does not change
  pub stable : (t : List ℕ) (l : ℕ) → AllPlaced g t → stepped g labels units t l ≡ t
  stable t l all =
      same_row (stepped g labels units t l) t (stepped_long g labels units t l)
      (λ i u.
      ⊎_elim
      (λ h.
      absurd
      (omega
      (arith, starts_unplaced g labels units t l i h, all.each i (starts_is g labels units t l i h).inside)))
      (λ h. stays_at g labels units t l i h)
      (two (starts_now g labels units t l i)))

  -- so from then on no advance changes it
  pub after_stable : (j k : ℕ) → j ≤ k → AllPlaced g (after g labels units j) → after g labels units k ≡ after g labels units j
  unfolding after
  after_stable j zero up all = let e : zero ≡ j = omega arith in ap (after g labels units) e
  after_stable j (suc k) up all =
      ⊎_elim
      (λ e. ap (after g labels units) (sym e))
      (λ l.
      let before = after_stable j k (le_of_suc-le-suc l) all in
      stable (after g labels units k) (k + 1) (subst (AllPlaced g) (sym before) all) ∙ before)
      (eq-or-lt_of_le up)

-- any two list schedules are equal
pub list_starts_one : (g : Graph) (units s t : List ℕ) → ListStarts g units s → ListStarts g units t → s ≡ t
list_starts_one g units s t x y =
    let same = after_same g x.labels y.labels units (graph_labels_one g x.labels y.labels x.are_labels y.are_labels) in
    let joined : after g x.labels units x.rounds ≡ after g y.labels units y.rounds =
    ⊎_elim
    (λ up.
    sym (after_stable g x.labels units x.rounds y.rounds (omega arith) x.all) ∙ same y.rounds)
    (λ up. same x.rounds ∙ after_stable g y.labels units y.rounds x.rounds up y.all)
    (lt_or_le x.rounds y.rounds) in
    x.is ∙ ap (take (many g)) joined ∙ sym y.is

-- ---- it is there in time
-- as many of the longest delays as there may be operations are within the steps: a fact about the limits
limits_fit : limit.longest * limit.operations ≤ limit.steps
limits_fit = omega arith

-- so the sum of all delays is
pub delays_fit : (g : Graph) → Sound g → all_delays g ≤ limit.steps
delays_fit g s = omega (arith, limits_fit, sum_bound (delay g) limit.longest (many g) s.delay_to, s.few)

module _ (g : Graph) (labels units : List ℕ) (can : Doable g units) where
  pub placed_by : (k : ℕ) → all_delays g ≤ k → AllPlaced g (after g labels units k)
  placed_by k enough = record { each = λ i b. (all_finished g labels units can k enough i b).placed }

  -- every operation is placed within as many advances as there are steps
  pub all_placed : AllPlaced g (after g labels units limit.steps)
  all_placed = placed_by limit.steps (delays_fit g can.sound)
