-- The tally over the operations: each is marked once, so each counter is the count of those running; what is read off it is the over-use.
use mathlib.Core.Path.{◌≡◌, sym, ap, ◌∙◌}
use mathlib.Core.Logic.{⊎_elim}
use mathlib.Core.List.{List, []}
use Prim.Native.Nat.{ℕ, ◌+◌, ◌≤◌, ◌<◌, ◌-◌}
use native.Mathlib.Omega.{arith}
use lib.ListN.{length, replicate, length-replicate}
use Rattle.std.proofs.lemmas.List.{get_or-replicate}
use Rattle.maths.specs.Cases.{lt_or_le, le_or_lt}
use Rattle.maths.specs.Rows.{at, blank}
use Rattle.maths.specs.Count.{bit, count, count_le, count_step, count_start}
use Rattle.model.specs.Limits as limit
use Rattle.model.specs.Graph.{Graph, many, type_of, busy_time}
use Rattle.model.specs.Use.{runs, running}
use Rattle.theory.specs.unit_use.RunningAndPeak.{running_none}
use Rattle.theory.specs.unit_use.RunningInNumbers.{runs_for_is}
use Rattle.model.specs.Faults as fault
use Rattle.std.specs.Prelude.{Option, None as Nothing, Some}
use Rattle.checker.specs.Tally.{row, cell, Markable, Marked, Tally, OverCell, Reads}
use Rattle.checker.specs.Findings.{Overs}

-- a tally of zeros
abbrev zeros : List (List ℕ)
zeros = replicate (limit.steps + 1) (replicate limit.kinds 0)

-- each of its rows is a row of zeros
blank_row : (l : ℕ) → l ≤ limit.steps → row zeros l ≡ replicate limit.kinds 0
blank_row l p = get_or-replicate (limit.steps + 1) l (replicate limit.kinds 0) [] (omega arith)

-- zeros count nobody
pub tally_none : {g : Graph} {t : List ℕ} → Tally g t zeros 0
tally_none {g} {t} = record {
  within = omega arith;
  rows = record {
    long = length-replicate {A = List ℕ} (limit.steps + 1) (replicate limit.kinds 0);
    cells = omega (arith, length-replicate {A = List ℕ} (limit.steps + 1) (replicate limit.kinds 0));
    wide = λ l p. ap length (blank_row l p) ∙ length-replicate {A = ℕ} limit.kinds 0;
  };
  counters = λ l k p q. ap (λ (r : List ℕ). at r k) (blank_row l p) ∙ blank limit.kinds k ∙ sym (count_start (runs g t k l));
}

module _ {g : Graph} {t : List ℕ} {tally : List (List ℕ)} {i : ℕ} (h : Tally g t tally i) where
  -- the next operation can be marked
  pub tally_can : i < limit.operations → type_of g i < limit.kinds → 1 ≤ busy_time g i → at t i + busy_time g i ≤ limit.steps + 1
      → Markable tally (type_of g i) (at t i) (at t i + busy_time g i - 1)
  tally_can few kind positive end = record {
    rows = h.rows;
    kind_in = kind;
    forward = omega arith;
    last_in = omega arith;
    low = λ l p. omega (arith, h.counters l (type_of g i) p kind, count_le (runs g t (type_of g i) l) i);
  }

  pub tally_step : {after : List (List ℕ)} → i < many g → 1 ≤ busy_time g i → Marked tally (type_of g i) (at t i) (at t i + busy_time g i - 1 + 1) after
      → Tally g t after (i + 1)
  tally_step b positive marked = record {
    within = omega arith;
    rows = marked.rows;
    counters = λ l k p q.
        let end : at t i + busy_time g i - 1 + 1 ≡ at t i + busy_time g i = omega arith in
        let m = rw end at marked in
        omega (
          arith,
          m.counters l k p q,
          h.counters l k p q,
          count_step (runs g t k l) i,
          ap bit (runs_for_is g t k l i),
        );
  }

-- ---- what is read off a full tally
module _ (g : Graph) (units : List ℕ) (bound : ℕ) (t : List ℕ) (tally : List (List ℕ)) (even : length units ≡ g.kinds) (few : g.kinds ≤ limit.kinds)
    (bound_in : bound ≤ limit.steps) (from_one : (i : ℕ) → i < many g → 1 ≤ at t i)
    (ends : (i : ℕ) → i < many g → at t i + busy_time g i ≤ bound + 1) (i : ℕ) (h : Tally g t tally i) (end : many g ≤ i) where
  -- each counter up to the bound is the unit use
  full : (l k : ℕ) → l ≤ bound → k < g.kinds → cell tally l k ≡ running g t k l
  full l k p q =
      let all : i ≡ many g = omega (arith, h.within) in
      h.counters l k (omega arith) (omega arith) ∙ ap (count (runs g t k l)) all

  -- nothing runs before step 1 or after the bound
  over_early : (l k : ℕ) → fault.OverUsed g units t l k → 1 ≤ l
  over_early l k o =
      ⊎_elim
      (λ p. p)
      (λ z. absurd (omega (arith, o.more, running_none g t k l (λ i b r. omega (arith, r.started, from_one i b)))))
      (lt_or_le 0 l)

  over_late : (l k : ℕ) → fault.OverUsed g units t l k → l ≤ bound
  over_late l k o =
      ⊎_elim
      (λ p. p)
      (λ z. absurd (omega (arith, o.more, running_none g t k l (λ i b r. omega (arith, r.unfinished, ends i b)))))
      (le_or_lt l bound)

  -- so over-use shows in the tally, and what shows there is over-use
  cell_over : (l k : ℕ) → fault.OverUsed g units t l k → OverCell (row tally l) units k
  cell_over l k o = record {
    kind = omega (arith, o.kind);
    more = omega (arith, o.more, full l k (over_late l k o) o.kind);
  }

  over_cell : (l k : ℕ) → l ≤ bound → OverCell (row tally l) units k → fault.OverUsed g units t l k
  over_cell l k p o = record {
    kind = omega (arith, o.kind);
    more = omega (arith, o.more, full l k p (omega (arith, o.kind)));
  }

  pub reads_overs : (f : Option (ℕ × ℕ)) → Reads tally units bound f → Overs g units t f
  unfolding Reads Overs
  reads_overs Nothing q =
      λ l k o. q.none_before l k (over_early l k o) (omega (arith, over_late l k o)) (cell_over l k o)
  reads_overs (Some (l, k)) q = record {
    over = over_cell l k q.inside q.lowest.holds;
    none_before = λ m j b o. q.quiet.none_before m j (over_early m j o) b (cell_over m j o);
    none_below = λ j b o. q.lowest.none_before j b (cell_over l j o);
  }
