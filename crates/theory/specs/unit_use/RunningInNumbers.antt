-- When an operation runs, told by its numbers alone: it is of the type, from its start on, and to before its end.
use Rattle.std.specs.Prelude.{◌≡◌, refl, Bool, true, false, List, ℕ, ◌+◌, ◌≤◌, ◌<◌, leb, eqb}
use Rattle.std.proofs.Common.{sym, ◌∙◌, ⊎_elim, arith, eq-eqb, ne_eqb, le-leb, lt-ltb, le-ltb}
use Rattle.std.proofs.lemmas.Bool.{lt-leb}
use Rattle.std.proofs.Math.Dec.{ltb}
use Rattle.maths.specs.Cases.{lt_or_le}
use Rattle.maths.specs.Rows.{at}
use Rattle.maths.specs.Tests.{◌and◌, and_true, and_left_false, and_right_false}
use Rattle.model.specs.Graph.{Graph, type_of, busy_time}
use Rattle.model.specs.Use.{runs}

-- an operation of type `of` that is busy from `start` to before `end` is of type k and running at step l
unfoldable pub runs_for : ℕ → ℕ → ℕ → ℕ → ℕ → Bool
runs_for of start end k l = eqb of k and (leb start l and ltb l end)

-- the test of unit use is this one
pub runs_for_is : (g : Graph) (t : List ℕ) (k l i : ℕ) → runs g t k l i ≡ runs_for (type_of g i) (at t i) (at t i + busy_time g i) k l
unfolding runs runs_for
runs_for_is g t k l i = refl

-- of another type, not yet started, over; and else running
module _ (of start end k l : ℕ) where
  pub for_other : (of ≡ k → ⊥) → runs_for of start end k l ≡ false
  unfolding runs_for
  for_other n = and_left_false (leb start l and ltb l end) (ne_eqb of k n)

  pub for_early : l < start → runs_for of start end k l ≡ false
  unfolding runs_for
  for_early h = and_right_false (eqb of k) (and_left_false (ltb l end) (lt-leb start l h))

  pub for_over : end ≤ l → runs_for of start end k l ≡ false
  unfolding runs_for
  for_over h = and_right_false (eqb of k) (and_right_false (leb start l) (le-ltb l end h))

  pub for_runs : of ≡ k → start ≤ l → l < end → runs_for of start end k l ≡ true
  unfolding runs_for
  for_runs e h m = and_true (eq-eqb of k e) (and_true (le-leb start l h) (lt-ltb l end m))

-- one step more to the end tells of that step alone
pub for_end : (of start end k l : ℕ) → (l ≡ end → ⊥) → runs_for of start (end + 1) k l ≡ runs_for of start end k l
unfolding runs_for
for_end of start end k l n =
    ⊎_elim
    (λ h. rw (lt-ltb l end h, lt-ltb l (end + 1) (omega arith)))
    (λ h. for_over of start (end + 1) k l (omega arith) ∙ sym (for_over of start end k l h))
    (lt_or_le l end)
