-- Unit use taken apart; a peak has one value and is met at some operation's start.
use Rattle.std.specs.Prelude.{◌≡◌, ◌⊎◌, true, false, List, ℕ, ◌+◌, ◌≤◌, ◌<◌}
use Rattle.std.proofs.Common.{inl, inr, ⊎_elim, arith}
use borrow.Author.Tests.{eq-eqb, eqb-true, le-leb, leb-true, lt-ltb, ltb-true}
use Rattle.std.proofs.Math.Dec.{eqb, leb, ltb}
use Rattle.maths.specs.Rows.{at}
use Rattle.maths.specs.Tests.{two, clash, off, and_true, and_left, and_right}
use Rattle.maths.specs.Lowest.{None}
use Rattle.maths.specs.Greatest.{Greatest, greatest}
use Rattle.maths.specs.Count.{count, count_le, count_none}
use Rattle.maths.specs.Counting.{count_mono}
use Rattle.model.specs.Graph.{Graph, many, busy_time, type_of}
use Rattle.model.specs.Use.{runs, running, Peak}

-- ---- running, taken apart
-- what it means that i is of type k and running at step l
pub record Runs (g : Graph) (t : List ℕ) (k l i : ℕ) : Type 0 where
  pub kind : type_of g i ≡ k
  pub started : at t i ≤ l
  pub unfinished : l < at t i + busy_time g i

-- the test passes exactly where i runs, so that is decided
module _ (g : Graph) (t : List ℕ) (k l i : ℕ) where
  pub runs_true : runs g t k l i ≡ true → Runs g t k l i
  unfolding runs
  runs_true e =
      let kind = eqb (type_of g i) k in
      let started = leb (at t i) l in
      let unfinished = ltb l (at t i + busy_time g i) in
      let times = and_right kind _ e in
      record {
        kind = eqb-true _ _ (and_left kind _ e);
        started = leb-true _ _ (and_left started unfinished times);
        unfinished = ltb-true _ _ (and_right started unfinished times);
      }

  pub runs_yes : Runs g t k l i → runs g t k l i ≡ true
  unfolding runs
  runs_yes r =
      and_true (eq-eqb (type_of g i) k r.kind)
      (and_true (le-leb (at t i) l r.started) (lt-ltb l (at t i + busy_time g i) r.unfinished))

  pub runs_no : (Runs g t k l i → ⊥) → runs g t k l i ≡ false
  runs_no n = off (runs g t k l i) (λ e. n (runs_true e))

  pub runs_or_not : Runs g t k l i ⊎ (Runs g t k l i → ⊥)
  runs_or_not =
      ⊎_elim (λ e. inl (runs_true e)) (λ e. inr (λ r. clash (runs_yes r) e)) (two (runs g t k l i))

-- no more run than there are operations
pub running_le : (g : Graph) (t : List ℕ) (k l : ℕ) → running g t k l ≤ many g
running_le g t k l = count_le (runs g t k l) (many g)

-- where nothing runs the count is 0
pub running_none : (g : Graph) (t : List ℕ) (k l : ℕ) → None (Runs g t k l) (many g) → running g t k l ≡ 0
running_none g t k l n = count_none (runs g t k l) (many g) (λ i b. runs_no g t k l i (n i b))

-- ---- a peak has one value
pub peak_one : (g : Graph) (t : List ℕ) (k p q : ℕ) → Peak g t k p → Peak g t k q → p ≡ q
peak_one g t k p q a b = omega (arith, a.met, b.met, a.never_more b.at_step, b.never_more a.at_step)

-- ---- a maximum is met at some operation's start
-- how many of the first m operations are of type k and running at step l
abbrev pub running_first : Graph → List ℕ → ℕ → ℕ → ℕ → ℕ
running_first g t m k l = count (runs g t k l) m

module _ (g : Graph) (t : List ℕ) (m k l : ℕ) where
  -- those of the first m that run at l run at the last start among them
  pub at_last_start : (last : Greatest (Runs g t k l) (at t) m) → running_first g t m k l ≤ running_first g t m k (at t last.place)
  at_last_start last =
      count_mono (runs g t k l) (runs g t k (at t last.place)) m
      (λ i b e.
      let r = runs_true g t k l i e in
      runs_yes g t k (at t last.place) i
      (record {
        kind = r.kind;
        started = last.most i b r;
        unfinished = omega (arith, r.unfinished, last.holds.started);
      }))

  -- so what bounds unit use at each start bounds it at every step
  pub first_starts_enough : (most : ℕ) → ((j : ℕ) → j < m → type_of g j ≡ k → running_first g t m k (at t j) ≤ most) → running_first g t m k l ≤ most
  first_starts_enough most each =
      ⊎_elim
      (λ last. omega (arith, at_last_start last, each last.place last.inside last.holds.kind))
      (λ none. omega (arith, count_none (runs g t k l) m (λ i b. runs_no g t k l i (none i b))))
      (greatest (Runs g t k l) (at t) m (λ i b. runs_or_not g t k l i))

-- none of the first n operations of type k starts at a step where more than p of that type are running
pub record AtStarts (g : Graph) (t : List ℕ) (k n p : ℕ) : Type 0 where
  pub bound : (i : ℕ) → i < n → type_of g i ≡ k → running g t k (at t i) ≤ p

-- p is 0, or at some step p of type k are running
pub data Met (g : Graph) (t : List ℕ) (k p : ℕ) : Type 0 where
  nobody : p ≡ 0 → Met g t k p
  once : (l : ℕ) → running g t k l ≡ p → Met g t k p

module _ (g : Graph) (t : List ℕ) (k : ℕ) where
  -- the same of all operations
  pub starts_enough : (p : ℕ) → AtStarts g t k (many g) p → (l : ℕ) → running g t k l ≤ p
  starts_enough p h l = first_starts_enough g t (many g) k l p h.bound

  -- such a bound that is 0, or met, is the peak
  pub peak_starts : (p : ℕ) → AtStarts g t k (many g) p → Met g t k p → Peak g t k p
  peak_starts p h (Met.nobody z) =
      record { never_more = starts_enough p h; at_step = 0; met = omega (arith, starts_enough p h 0) }
  peak_starts p h (Met.once l e) = record { never_more = starts_enough p h; at_step = l; met = e }
