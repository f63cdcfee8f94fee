-- The peaks over the operations: each type's number is the largest count at the starts passed, and a largest count at the starts is the peak.
use mathlib.Core.Path.{◌≡◌, sym, subst, ◌∙◌}
use mathlib.Core.Logic.{⊎_elim}
use mathlib.Core.List.{List}
use Prim.Native.Nat.{ℕ, ◌+◌, ◌≤◌, ◌<◌, max}
use native.Mathlib.Omega.{arith}
use lib.ListN.{length, set, replicate, length-set, length-replicate}
use lib.Seq.{get_or-set_same, get_or-set_other}
use borrow.Author.Count.{below_more}
use Rattle.maths.specs.Cases.{same_or_not, le_or_lt}
use Rattle.maths.specs.Rows.{at, blank}
use Rattle.model.specs.Limits as limit
use Rattle.model.specs.Graph.{Graph, many, type_of}
use Rattle.model.specs.Use.{running}
use Rattle.theory.specs.unit_use.RunningAndPeak.{AtStarts, Met, peak_starts}
use Rattle.model.specs.Verdicts.{AllPeaks}

-- p is the largest count of type k at the starts of the first i operations
pub record Top (g : Graph) (t : List ℕ) (k i p : ℕ) : Type 0 where
  pub starts : AtStarts g t k i p
  pub met : Met g t k p

-- each type's number is its largest count at the starts of the first i
pub record Peaked (g : Graph) (t counts : List ℕ) (i : ℕ) : Type 0 where
  pub within : i ≤ many g
  pub long : length counts ≡ limit.kinds
  pub tops : (k : ℕ) → k < limit.kinds → Top g t k i (at counts k)

module _ {g : Graph} {t : List ℕ} where
  pub peaked_none : Peaked g t (replicate limit.kinds 0) 0
  peaked_none = record {
    within = omega arith;
    long = length-replicate {A = ℕ} limit.kinds 0;
    tops = λ k l.
        record { starts = record { bound = λ i b. absurd (omega arith) }; met = Met.nobody (blank limit.kinds k) };
  }

  -- another operation's type: nothing changes
  top_other : {k i p : ℕ} → Top g t k i p → (type_of g i ≡ k → ⊥) → Top g t k (i + 1) p
  top_other {k} {i} {p} h n = record {
    starts = record {
      bound = below_more (λ j. type_of g j ≡ k → running g t k (at t j) ≤ p) i h.starts.bound (λ e. absurd (n e));
    };
    met = h.met;
  }

  -- this operation's: the larger of the two
  top_this : {k i p : ℕ} → Top g t k i p → Top g t k (i + 1) (max p (running g t k (at t i)))
  top_this {k} {i} {p} h = record {
    starts = record {
      bound = below_more (λ j. type_of g j ≡ k → running g t k (at t j) ≤ max p (running g t k (at t i))) i
          (λ j l e. omega (arith, h.starts.bound j l e))
          (λ e. omega arith);
    };
    met =
        ⊎_elim
        (λ l. Met.once (at t i) (omega arith))
        (λ l. let same : p ≡ max p (running g t k (at t i)) = omega arith in subst (Met g t k) same h.met)
        (le_or_lt p (running g t k (at t i)));
  }

  pub peaked_step : {counts : List ℕ} {i r : ℕ} → Peaked g t counts i → i < many g → type_of g i < limit.kinds
      → r ≡ max (at counts (type_of g i)) (running g t (type_of g i) (at t i)) → Peaked g t (set counts (type_of g i) r) (i + 1)
  peaked_step {counts} {i} {r} h b kind e = record {
    within = omega arith;
    long = length-set counts (type_of g i) r ∙ h.long;
    tops = λ k l.
        ⊎_elim
        (λ same.
        subst (λ (k : ℕ). Top g t k (i + 1) (at (set counts (type_of g i) r) k)) same
        (subst (Top g t (type_of g i) (i + 1)) (sym e ∙ sym (get_or-set_same counts (type_of g i) r 0 (omega (arith, h.long))))
        (top_this (h.tops (type_of g i) kind))))
        (λ n.
        subst (Top g t k (i + 1)) (sym (get_or-set_other counts (type_of g i) k r 0 (λ x. n (sym x))))
        (top_other (h.tops k l) n))
        (same_or_not (type_of g i) k);
  }

  pub peaked_end : {counts : List ℕ} {i : ℕ} → Peaked g t counts i → many g ≤ i → AllPeaks g t counts
  peaked_end {counts} {i} h end = record {
    long = h.long;
    each = λ k l.
        let all : i ≡ many g = omega (arith, h.within) in
        let top = h.tops k l in
        peak_starts g t k (at counts k) (rw all at top.starts) top.met;
  }
