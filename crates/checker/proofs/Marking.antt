-- Marking row by row: after each, the rows passed have one counter more and no other row changed.
use mathlib.Core.Path.{◌≡◌, sym, ap, subst, ◌∙◌}
use mathlib.Core.Logic.{⊎_elim}
use mathlib.Core.List.{List, [], ◌++◌}
use Prim.Native.Nat.{ℕ, ◌+◌, ◌-◌, ◌≤◌, ◌<◌}
use native.Mathlib.Omega.{arith}
use lib.ListN.{length, set, take, drop, length-set, length-append, length-drop, get_or-append}
use lib.Seq.{get_or-set_same, get_or-set_other, get_or-take, get_or-drop, get_or-append_right, length-take-le}
use Rattle.maths.specs.Cases.{same_or_not, lt_or_le, le_or_lt}
use Rattle.maths.specs.Rows.{at}
use Rattle.maths.specs.Count.{bit}
use Rattle.model.specs.Limits as limit
use Rattle.theory.specs.unit_use.RunningInNumbers.{runs_for, for_other, for_early, for_over, for_runs}
use Rattle.checker.specs.Tally.{row, cell, Markable, Marked}

-- a row with one counter more
abbrev one_more : List ℕ → ℕ → List ℕ
one_more r kind = set r kind (at r kind + 1)

-- the first `passed` rows have one counter more, the others are as they were
pub record Raised (before : List (List ℕ)) (kind : ℕ) (after : List (List ℕ)) (passed : ℕ) : Type 0 where
  pub done : (j : ℕ) → j < passed → j < length before → row after j ≡ one_more (row before j) kind
  pub rest : (j : ℕ) → passed ≤ j → row after j ≡ row before j

-- the steps' rows, taken out of the tally and put back with one counter more, are the mark
module _ {before part : List (List ℕ)} {kind start last wide passed : ℕ} (can : Markable before kind start last)
    (steps : wide ≡ last + 1 - start) (raised : Raised (take wide (drop start before)) kind part passed)
    (long : length part ≡ length (take wide (drop start before))) (all : length part ≤ passed) where
  abbrev marked : List (List ℕ)
  marked = take start before ++ (part ++ drop wide (drop start before))

  front : length (take start before) ≡ start
  front = length-take-le start before (omega (arith, can.rows.long, can.forward, can.last_in))

  part_long : length part ≡ wide
  part_long = long ∙ length-take-le wide (drop start before) (omega (arith, length-drop start before, can.rows.long, can.last_in))

  row_early : (l : ℕ) → l < start → row marked l ≡ row before l
  row_early l e = get_or-append (take start before) _ [] l (omega (arith, front)) ∙ get_or-take start before l [] e

  row_late : (l : ℕ) → last < l → row marked l ≡ row before l
  row_late l e =
      get_or-append_right (take start before) _ l [] (omega (arith, front, can.forward))
      ∙ get_or-append_right part _ (l - length (take start before)) [] (omega (arith, front, part_long, can.forward))
      ∙ get_or-drop wide (drop start before) _ []
      ∙ get_or-drop start before _ []
      ∙ ap (row before) (omega (arith, front, part_long, can.forward))

  row_here : (l : ℕ) → start ≤ l → l ≤ last → row marked l ≡ one_more (row before l) kind
  row_here l e f =
      let j = l - length (take start before) in
      let same : row (take wide (drop start before)) j ≡ row before l =
      get_or-take wide (drop start before) j [] (omega (arith, front))
      ∙ get_or-drop start before j []
      ∙ ap (λ (m : ℕ). row before m) (omega (arith, front)) in
      get_or-append_right (take start before) _ l [] (omega (arith, front))
      ∙ get_or-append part _ [] j (omega (arith, front, part_long))
      ∙ raised.done j (omega (arith, front, part_long)) (omega (arith, front, part_long))
      ∙ ap (λ (r : List ℕ). one_more r kind) same

  -- what holds of each row as it was, and of each row with one counter more, holds of the rows now
  each : (P : ℕ → List ℕ → Type 0) (l : ℕ) → (l < start → P l (row before l)) → (last < l → P l (row before l))
      → (start ≤ l → l ≤ last → P l (one_more (row before l) kind)) → P l (row marked l)
  each P l early late here =
      ⊎_elim
      (λ e. subst (P l) (sym (row_early l e)) (early e))
      (λ e.
      ⊎_elim
      (λ f. subst (P l) (sym (row_here l e f)) (here e f))
      (λ f. subst (P l) (sym (row_late l f)) (late f))
      (le_or_lt l last))
      (lt_or_le l start)

  -- a mark neither adds a row nor drops one
  same_length : length marked ≡ length before
  same_length =
      omega (arith, length-append (take start before) (part ++ drop wide (drop start before)), length-append part (drop wide (drop start before)), length-drop wide (drop start before), length-drop start before, front, part_long, can.rows.long, can.forward, can.last_in)

  pub marked_rows : Marked before kind start (last + 1) marked
  marked_rows = record {
    rows = record {
      long = same_length ∙ can.rows.long;
      cells = omega (arith, same_length, can.rows.cells);
      wide = λ l p.
          each (λ (l : ℕ) (r : List ℕ). length r ≡ limit.kinds) l (λ e. can.rows.wide l p) (λ e. can.rows.wide l p)
          (λ e f. length-set (row before l) kind _ ∙ can.rows.wide l p);
    };
    counters = λ l k p q.
        each (λ (l : ℕ) (r : List ℕ). at r k ≡ cell before l k + bit (runs_for kind start (last + 1) k l)) l
        (λ e. omega (arith, ap bit (for_early kind start (last + 1) k l e)))
        (λ e. omega (arith, ap bit (for_over kind start (last + 1) k l (omega arith))))
        (λ e f.
        ⊎_elim
        (λ same.
        omega (
          arith,
          ap (at (one_more (row before l) kind)) same,
          ap (at (row before l)) same,
          get_or-set_same (row before l) kind (cell before l kind + 1) 0 (omega (arith, can.rows.wide l p, can.kind_in)),
          ap bit (for_runs kind start (last + 1) k l (sym same) e (omega arith)),
        ))
        (λ n.
        omega (
          arith,
          get_or-set_other (row before l) kind k (cell before l kind + 1) 0 n,
          ap bit (for_other kind start (last + 1) k l (λ x. n (sym x))),
        ))
        (same_or_not k kind));
  }
