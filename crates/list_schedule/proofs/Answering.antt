-- How the answers are put together: each way out of `advance` and of `list_schedule` is an outcome that its contract allows.
use Rattle.std.specs.Prelude.{◌≡◌, refl, false, ◌⊎◌, List, [], ◌++◌, ℕ, ◌+◌, ◌≤◌, ◌<◌, eqb, length, take, Ok, Err}
use Rattle.std.proofs.Common.{sym, ap, ◌∙◌, ⊎_elim, eq-eqb, eqb-true, arith}
use Rattle.std.proofs.Math.Option.{Option, none, some}
use Rattle.maths.specs.Cases.{equal}
use Rattle.maths.specs.Rows.{at, over, take_at}
use Rattle.maths.specs.Counting.{some_or_none}
use Rattle.model.specs.Limits as limit
use Rattle.model.specs.Graph.{Graph, Sound, order, many}
use Rattle.model.specs.Lent.{graph_in}
use Rattle.model.specs.Tables.{Latency}
use Rattle.model.specs.Refusals.{Check, First, output, unitless, cyclic, outside}
use Rattle.model.specs.Scheduling.{ListGiven, ListAnswer, Moves, StateAfter, AdvanceAnswer}
use Rattle.model.specs.declared.Refusal.{Refusal}
use Rattle.model.specs.declared.graph.Graph as graph
use Rattle.theory.specs.tables.KeepingStarts.{within_same}
use Rattle.theory.specs.refusals.SoundGraph.{closed}
use Rattle.theory.specs.refusals.FirstRefusal.{first_hit, first_pass, first_says, first_silent, first_end, first_none_append, flat_says, flat_silent}
use Rattle.theory.specs.list.Progress.{Doable}
use Rattle.theory.specs.list.OneListAnswer.{doable}
use Rattle.admission.specs.Admitted.{graph_unit_checks, placed_unit_checks, Admitted}
use Rattle.admission.specs.AdmissionLaws.{first_matched, matches_equal, admitted_matched, admitted_refused, admitted_first, admitted_kept, admitted_given, admitted_sound, admitted_room, passed_sound, passed_own, passed_rest}
use Rattle.list_schedule.specs.WholeSchedule.{Full, ListRow}
use Rattle.list_schedule.proofs.Going.{all_full, full_all}

-- the units' row has another length than K
abbrev Odd : Graph → List ℕ → Type 0
Odd g units = length units ≡ g.kinds → ⊥

-- the advance's checks but the last, in the table's words
abbrev advance_front : Graph → List ℕ → List Check
advance_front g units = graph_unit_checks g (Odd g units) units

advance_units : (g : Graph) (units : List ℕ) (x : Option (ℕ × ℕ)) → First (graph_unit_checks g (eqb (length units) g.kinds ≡ false) units) x
    → First (advance_front g units) x
advance_units g units x h = first_matched (matches_equal (length units) g.kinds) g (unitless g units ++ cyclic (order g)) x h

-- ---- what the checks leave of a graph as it is lent
module _ (lends : graph.Graph) (units : List ℕ) where
  abbrev given : Graph
  given = graph_in lends

  -- it can be scheduled whole
  can_all : Sound given → length units ≡ lends.kinds → First (unitless given units) none → First (cyclic (order given)) none → Doable given units
  can_all sound even staffed free = doable given units sound (λ i l. omega arith) staffed free

  module _ (h : First (graph_unit_checks given (eqb (length units) lends.kinds ≡ false) units) none) where
    front : First (advance_front given units) none
    front = advance_units given units none h

    pub advance_even : length units ≡ lends.kinds
    advance_even = equal (passed_own given (Odd given units) _ front)

    pub advance_can : Doable given units
    advance_can =
        let rest = first_none_append (unitless given units) (cyclic (order given)) (passed_rest given (Odd given units) _ front) in
        can_all (passed_sound given (Odd given units) _ front) advance_even rest.0 rest.1

  -- ---- the list schedule's ways out
  module _ {before mid : List ℕ} where
    pub list_refused : {why : Refusal} → Admitted (order given) (placed_unit_checks given (eqb (length units) lends.kinds ≡ false) (length before) units) before (Err why) mid
        → ListAnswer given units before (Err why) mid
    list_refused h = admitted_refused (admitted_matched (matches_equal (length units) lends.kinds) h) [] _

    module _ {s : List ℕ} (h : Admitted (order given) (placed_unit_checks given (eqb (length units) lends.kinds ≡ false) (length before) units) before (Ok s) mid) where
      begun : Admitted (order given) (placed_unit_checks given (Odd given units) (length before) units) before (Ok s) mid
      begun = admitted_matched (matches_equal (length units) lends.kinds) h

      pub list_even : length units ≡ lends.kinds
      list_even = equal (passed_own given (Odd given units) _ (admitted_first begun))

      -- it can be scheduled whole, and the output has room
      pub list_can : Doable given units
      list_can =
          let rest = passed_rest given (Odd given units) (output given (length before) ++ unitless given units ++ cyclic (order given)) (admitted_first begun) in
          let last = first_none_append (output given (length before) ++ unitless given units) (cyclic (order given)) rest in
          can_all (admitted_sound begun) list_even (first_none_append (output given (length before)) (unitless given units) last.0).1 last.1

      pub list_room : length lends.delays.now ≤ length mid
      list_room = admitted_room begun

      -- answered: the list schedule is written
      pub list_given : {row : List ℕ} {l : ℕ} {after : List ℕ} → ListRow given units row → Latency (order given) row l
          → after ≡ over (take (length lends.delays.now) row) mid → ListAnswer given units before (Ok l) after
      list_given {row} {l} {after} are ends written =
          let o = order given in
          let front = take (length lends.delays.now) row in
          let shut = closed given (admitted_sound begun) in
          let same : (i : ℕ) → i < length lends.delays.now → at row i ≡ at front i = λ i b. sym (take_at (length lends.delays.now) row i b) in
          let back : (i : ℕ) → i < length lends.delays.now → at front i ≡ at row i = λ i b. take_at (length lends.delays.now) row i b in
          admitted_given begun [] (ListGiven given units before l) first_end
          (record {
            starts = front;
            are = are.are;
            ends = record {
              within = within_same o shut row front same l ends.within;
              least = λ b w. ends.least b (within_same o shut front row back b w);
            };
            written = written ∙ ap (over front) (admitted_kept begun);
          })

-- ---- the advance's ways out
module _ {g : Graph} {units t : List ℕ} {step : ℕ} where
  pub advance_refused : {r : ℕ × ℕ} → First (graph_unit_checks g (eqb (length units) g.kinds ≡ false) units) (some r) → AdvanceAnswer g units t step (some r) t step
  unfolding StateAfter
  advance_refused {r} h = record {
    first = first_hit (advance_front g units) (outside g t step) r (advance_units g units (some r) h);
    state = record { starts = refl; same = refl };
  }

  module _ (h : First (graph_unit_checks g (eqb (length units) g.kinds ≡ false) units) none) where
    pub advance_whole : Full (many g) t → AdvanceAnswer g units t step none t step
    unfolding StateAfter
    advance_whole all = record {
      first = first_pass (advance_front g units) (outside g t step) none (advance_units g units none h)
          (first_silent _ _ _ (flat_silent 11 _ (λ out. omega (arith, all.each out.operation out.inside, out.unplaced))) first_end);
      state = (
        λ placed. record { starts = refl; same = refl },
        λ not. absurd (not (all_full g t all)),
      );
    }

    module _ (not : Full (many g) t → ⊥) where
      pub advance_outside : (step < 1) ⊎ (limit.steps < step) → AdvanceAnswer g units t step (some (11, 0)) t step
      unfolding StateAfter
      advance_outside out =
          ⊎_elim
          (λ w.
          record {
            first = first_pass (advance_front g units) (outside g t step) (some (11, 0)) (advance_units g units none h)
                (first_says _ _ 11 0
                (flat_says 11 _
                (record { operation = w.place; inside = w.inside; unplaced = eqb-true (at t w.place) 0 w.passes; out = out })));
            state = record { starts = refl; same = refl };
          })
          (λ none.
          absurd
          (not
          (record {
            each = λ i l.
                let some : at t i ≡ 0 → ⊥ = λ z. none i l (eq-eqb (at t i) 0 z) in
                omega arith;
          })))
          (some_or_none (λ i. eqb (at t i) 0) (many g))

      pub advance_moves : 1 ≤ step → step ≤ limit.steps → {t' : List ℕ} → Moves g units t step t' (step + 1)
          → AdvanceAnswer g units t step none t' (step + 1)
      unfolding StateAfter
      advance_moves low high m = record {
        first = first_pass (advance_front g units) (outside g t step) none (advance_units g units none h)
            (first_silent _ _ _ (flat_silent 11 _ (λ out. ⊎_elim (λ l. omega arith) (λ l. omega arith) out.out)) first_end);
        state = (λ placed. absurd (not (full_all g t placed)), λ still. m);
      }
