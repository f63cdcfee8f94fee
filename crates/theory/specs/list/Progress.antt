-- Progress: the work left falls at each step until none is left, so after the sum of all delays every operation is placed and over.
use Rattle.std.specs.Prelude.{◌≡◌, refl, Bool, true, List, ltb, replicate}
use Rattle.std.proofs.Math.Path.{ap}
use Rattle.std.proofs.Math.Logic.{⊎_elim}
use Prim.Native.Nat.{ℕ, zero, suc, ◌+◌, ◌-◌, ◌≤◌, ◌<◌}
use native.Mathlib.Omega.{arith}
use Rattle.std.proofs.Math.Dec.{eqb}
use Rattle.std.proofs.Common.{eq-eqb, eqb-true, lt-ltb, le-ltb, ltb-true}
use Rattle.maths.specs.Cases.{lt_or_le}
use Rattle.maths.specs.Tests.{◌and◌, and_true, and_left, and_right}
use Rattle.maths.specs.Rows.{at, blank}
use Rattle.maths.specs.Sum.{sum, sum_same, sum_le, sum_part}
use Rattle.maths.specs.Count.{count}
use Rattle.maths.specs.Counting.{sum_strict, sum_find, count_zero, count_pos, count_find, some_or_none, least}
use Rattle.model.specs.Limits as limit
use Rattle.model.specs.Order.{source}
use Rattle.model.specs.Graph.{Graph, Sound, order, many, delay, busy_time, type_of}
use Rattle.model.specs.Tables.{Keeps}
use Rattle.model.specs.Rule.{Finished, placed, candidate, in_use, starts_now, pick_start, stepped, after}
use Rattle.theory.specs.list.OneStep.{uses, uses_is, is_candidate, starts_is, starts_unplaced, starts_at, changed, kept, typed, starter, filled}
use Rattle.theory.specs.list.ReachedStates.{Reached, reached}

-- what lets every operation be placed: each type in use has a unit, none keeps its unit longer than its successors wait, and no cycle (a row keeps the order)
pub record Doable (g : Graph) (units : List ℕ) : Type 0 where
  pub sound : Sound g
  pub staffed : (i : ℕ) → i < many g → 1 ≤ at units (type_of g i)
  pub freed : (i : ℕ) → i < many g → busy_time g i ≤ delay g i
  pub row : List ℕ
  pub keeps : Keeps (order g) row

-- the sum of all delays
abbrev pub all_delays : Graph → ℕ
all_delays g = sum (delay g) (many g)

-- what is left at step l of an operation of delay d: all of it while it is not placed
rest : ℕ → ℕ → ℕ → ℕ
rest t d l = pick_start (ltb 0 t) (t + d - l) d

work : Graph → List ℕ → ℕ → ℕ
work g t l = sum (λ i. rest (at t i) (delay g i) l) (many g)

rest_placed : (t d l : ℕ) → 1 ≤ t → rest t d l ≡ t + d - l
unfolding rest
rest_placed t d l p = ap (λ (b : Bool). pick_start b (t + d - l) d) (lt-ltb 0 t p)

rest_unplaced : (t d l : ℕ) → t ≡ 0 → rest t d l ≡ d
unfolding rest
rest_unplaced t d l z = ap (λ (b : Bool). pick_start b (t + d - l) d) (le-ltb 0 t (omega arith))

module _ (g : Graph) (labels units : List ℕ) (can : Doable g units) (t : List ℕ) (l : ℕ) (pos : 1 ≤ l) (r : Reached g units t l) where
  next : List ℕ
  next = stepped g labels units t l

  before : ℕ → ℕ
  before i = rest (at t i) (delay g i) l

  left : ℕ → ℕ
  left i = rest (at next i) (delay g i) (l + 1)

  -- what starts has less left
  start_falls : (i : ℕ) → starts_now g labels units t l i ≡ true → left i < before i
  unfolding next left before
  start_falls i h =
      let b = (starts_is g labels units t l i h).inside in
      let e = starts_at g labels units t l i (omega (arith, r.wide)) h in
      omega (
        arith,
        rest_placed (at next i) (delay g i) (l + 1) (omega arith),
        rest_unplaced (at t i) (delay g i) l (starts_unplaced g labels units t l i h),
        can.sound.delay_from i b,
      )

  -- what is placed has no more left, and less where it is not over
  placed_falls : (i : ℕ) → 1 ≤ at t i → (left i ≤ before i) × (l < at t i + delay g i → left i < before i)
  unfolding next left before
  placed_falls i p =
      let e = kept g labels units t l i p in
      let a = rest_placed (at next i) (delay g i) (l + 1) (omega arith) in
      let b = rest_placed (at t i) (delay g i) l p in
      (omega arith, λ m. omega arith)

  never_more : (i : ℕ) → left i ≤ before i
  unfolding next left before
  never_more i =
      ⊎_elim
      (λ p. (placed_falls i p).0)
      (λ z.
      ⊎_elim
      (λ e.
      omega
      (arith, rest_unplaced (at next i) (delay g i) (l + 1) (omega arith), rest_unplaced (at t i) (delay g i) l (omega arith)))
      (λ w. omega (arith, start_falls i w.0))
      (changed g labels units t l i r.wide))
      (lt_or_le 0 (at t i))

  -- an operation with less left after the step
  record Mover : Type 0 where
    number : ℕ
    inside : number < many g
    falls : left number < before number

  -- nothing is placed that is not over
  module _ (idle : (i : ℕ) → i < many g → 1 ≤ at t i → at t i + delay g i ≤ l) where
    -- the unplaced one that stands first in a row that keeps the order is a candidate
    first_may : (i : ℕ) → i < many g → at t i ≡ 0 → ((j : ℕ) → j < many g → at t j ≡ 0 → at can.row i ≤ at can.row j)
        → candidate g t l i ≡ true
    first_may i b z low =
        is_candidate g t l i
        (record {
          unplaced = z;
          ready = λ e u q.
              let j = source (order g) e in
              let inside = can.sound.source_in e u in
              let climbs = can.keeps.edges e u in
              let some : at t j ≡ 0 → ⊥ =
              λ none. omega (arith, low j inside none, climbs, ap (at can.row) q, can.sound.delay_from j inside) in
              let p : 1 ≤ at t j = omega arith in
              record { placed = p; ended = idle j inside p };
        })

    -- with a unit of its type free, one of its type starts
    one_starts : (i : ℕ) → i < many g → candidate g t l i ≡ true → Mover
    one_starts i b may =
        let k = type_of g i in
        let free : in_use g t k l ≡ 0 =
        count_zero (uses g t k l) (many g)
        (λ j u h.
        let w = uses_is g t l k j h in
        omega (arith, idle j u w.placed, w.going, can.freed j u)) in
        let some : 0 < count (typed g t l k) (many g) = count_pos (typed g t l k) (many g) i b (and_true may (eq-eqb k k refl)) in
        let w = count_find (starter g labels units t l k) (many g) (omega (arith, filled g labels units t l k, can.staffed i b)) in
        record { number = w.place; inside = w.inside; falls = start_falls w.place (and_right _ _ w.passes) }

    mover_idle : 0 < work g t l → Mover
    unfolding work before
    mover_idle h =
        let w = sum_find before (many g) h in
        let z : at t w.place ≡ 0 =
        ⊎_elim
        (λ p.
        absurd
        (omega (
          arith,
          w.lowest.holds,
          rest_placed (at t w.place) (delay g w.place) l p,
          idle w.place w.lowest.inside p,
        )))
        (λ q. omega arith)
        (lt_or_le 0 (at t w.place)) in
        let m = least (λ i. eqb (at t i) 0) (at can.row) (many g) w.place w.lowest.inside (eq-eqb (at t w.place) 0 z) in
        one_starts m.place m.inside
        (first_may m.place m.inside (eqb-true (at t m.place) 0 m.passes)
        (λ j u q. m.low j u (eq-eqb (at t j) 0 q)))

  -- one that is placed and not over moves; where there is none, one starts
  mover : 0 < work g t l → Mover
  mover h =
      ⊎_elim
      (λ w.
      record {
        number = w.place;
        inside = w.inside;
        falls = (placed_falls w.place (ltb-true 0 (at t w.place) (and_left _ _ w.passes))).1
            (ltb-true l (at t w.place + delay g w.place) (and_right _ _ w.passes));
      })
      (λ none.
      mover_idle
      (λ i b p.
      ⊎_elim
      (λ m. absurd (none i b (and_true (lt-ltb 0 (at t i) p) (lt-ltb l (at t i + delay g i) m))))
      (λ m. m)
      (lt_or_le l (at t i + delay g i)))
      h)
      (some_or_none (λ i. placed t i and ltb l (at t i + delay g i)) (many g))

  -- while work is left, a step leaves less
  work_falls : work g (stepped g labels units t l) (l + 1) ≤ work g t l - 1
  unfolding work next before left
  work_falls =
      ⊎_elim
      (λ h.
      let m = mover h in
      omega (arith, sum_strict left before (many g) m.number m.inside (λ i u. never_more i) m.falls))
      (λ z. omega (arith, sum_le left before (many g) (λ i u. never_more i)))
      (lt_or_le 0 (work g t l))

-- ---- from the fresh state
module _ (g : Graph) (labels units : List ℕ) (can : Doable g units) where
  remaining : (k : ℕ) → work g (after g labels units k) (k + 1) ≤ all_delays g - k
  unfolding after work
  remaining zero =
      omega (
        arith,
        sum_same (λ i. rest (at (replicate limit.operations 0) i) (delay g i) 1) (delay g) (many g)
            (λ i u. rest_unplaced (at (replicate limit.operations 0) i) (delay g i) 1 (blank limit.operations i)),
      )
  remaining (suc k) =
      let e : k + 1 + 1 ≡ suc k + 1 = omega arith in
      let t = after g labels units k in
      omega (
        arith,
        remaining k,
        work_falls g labels units can t (k + 1) (omega arith) (reached g labels units can.sound.few k),
        ap (work g (stepped g labels units t (k + 1))) e,
      )

  -- after as many steps as there is work every operation is placed, and over
  pub all_finished : (k : ℕ) → all_delays g ≤ k → (i : ℕ) → i < many g → Finished g (after g labels units k) (k + 1) i
  unfolding work
  all_finished k enough i b =
      let t = after g labels units k in
      let none = sum_part (λ j. rest (at t j) (delay g j) (k + 1)) (many g) i b in
      let p : 1 ≤ at t i =
      ⊎_elim
      (λ p. p)
      (λ z.
      absurd
      (omega (arith, remaining k, rest_unplaced (at t i) (delay g i) (k + 1) (omega arith), can.sound.delay_from i b)))
      (lt_or_le 0 (at t i)) in
      record { placed = p; ended = omega (arith, remaining k, rest_placed (at t i) (delay g i) (k + 1) p) }
