-- The loop of a tally: where a number passes the test, the counter of its value goes up by one.
use Rattle.std.specs.Prelude.{◌≡◌, Bool, true, false, List, ℕ, ◌+◌, ◌≤◌, ◌<◌, eqb, set, replicate}
use Rattle.std.proofs.Common.{sym, ap, ◌∙◌, ⊎_elim, length-set, get_or-set_same, get_or-set_other, eq-eqb, ne_eqb, arith}
use Rattle.std.proofs.lemmas.List.{length-replicate}
use Rattle.maths.specs.Cases.{same_or_not}
use Rattle.maths.specs.Tests.{◌and◌, and_true, and_left_false, and_right_false}
use Rattle.maths.specs.Rows.{at, blank}
use Rattle.maths.specs.Count.{bit, count_le, count_no, count_step, count_start}
use Rattle.list_step.specs.CountsByValue.{CountsByValue}

module _ {value : ℕ → ℕ} {test : ℕ → Bool} {values : ℕ} where
  pub by_value_none : CountsByValue value test values (replicate values 0) 0
  by_value_none = record {
    long = length-replicate values 0;
    each = λ k l. blank values k ∙ sym (count_start (λ e. eqb (value e) k and test e));
  }

  module _ {row : List ℕ} {n : ℕ} (h : CountsByValue value test values row n) where
    -- a counter is at most the numbers passed, so one more fits
    pub counter_low : (k : ℕ) → k < values → at row k ≤ n
    counter_low k l = omega (arith, h.each k l, count_le (λ e. eqb (value e) k and test e) n)

    -- one that passes joins the counter of its value, and no other
    pub by_value_more : {v : ℕ} → v ≡ value n → v < values → test n ≡ true → CountsByValue value test values (set row v (at row v + 1)) (n + 1)
    by_value_more {v} is inside passes =
        let new : List ℕ = set row v (at row v + 1) in
        record {
          long = length-set row v (at row v + 1) ∙ h.long;
          each = λ k l.
              ⊎_elim
              (λ e.
              omega (
                arith,
                ap (at new) e,
                ap (at row) e,
                get_or-set_same row v (at row v + 1) 0 (omega (arith, h.long)),
                h.each k l,
                count_step (λ e. eqb (value e) k and test e) n,
                ap bit (and_true (eq-eqb (value n) k (sym is ∙ e)) passes),
              ))
              (λ ne.
              get_or-set_other row v k (at row v + 1) 0 (λ e. ne (sym e))
              ∙ h.each k l
              ∙ sym (count_no (λ e. eqb (value e) k and test e) n (and_left_false (test n) (ne_eqb (value n) k (λ e. ne (is ∙ e))))))
              (same_or_not v k);
        }

    -- one that fails joins none
    pub by_value_same : test n ≡ false → CountsByValue value test values row (n + 1)
    by_value_same fails = record {
      long = h.long;
      each = λ k l. h.each k l ∙ sym (count_no (λ e. eqb (value e) k and test e) n (and_right_false (eqb (value n) k) fails));
    }
