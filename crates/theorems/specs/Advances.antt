-- From the fresh state as many advances as there are steps give the list schedule, and none of them is refused.
use mathlib.Core.List.{List, ◌++◌}
use Rattle.std.specs.Prelude.{◌+◌, ◌-◌, suc, zero, ℕ, length, replicate, take, ◌≡◌}
use Rattle.std.proofs.Math.Path.{refl, sym, ap, subst}
use Rattle.std.proofs.Common.{◌∙◌, arith}
use Rattle.std.proofs.Math.Logic.{⊎_elim}
use Rattle.std.proofs.Math.Option.{Option, none}
use Rattle.maths.specs.Rows.{at, tabulate, tabulate_at}
use Rattle.model.specs.Order.{Order, size, weight, Closed, Cyclic}
use Rattle.model.specs.Graph.{Graph, order, many}
use Rattle.model.specs.Rule.{Labels, label_order, after, ListStarts, stepped, AllPlaced}
use Rattle.model.specs.Limits as limit
use Rattle.model.specs.Refusals.{First, shape, unitless, cyclic, Outside, outside}
use Rattle.model.specs.Scheduling.{StateAfter, AdvanceAnswer}
use Rattle.model.specs.Checks.{advance_checks}
use Rattle.theory.specs.order.PlacingOutcome.{placing_exists}
use Rattle.theory.specs.list.LabelValues.{labels_placed, label_closed, label_acyclic, graph_labels_one}
use Rattle.theory.specs.list.Progress.{Doable}
use Rattle.theory.specs.list.OneListSchedule.{all_placed, stepped_same, stable, after_stable}
use Rattle.theory.specs.refusals.FirstRefusal.{first_pass, first_silent, first_end, flat_silent}
use Rattle.theory.specs.refusals.OneRefusal.{first_one}
use Rattle.theory.specs.refusals.SoundGraph.{closed, closed_turned}
use Rattle.theory.specs.tables.KeepingStarts.{keeps_acyclic}
use Rattle.theory.specs.list.OneListAnswer.{advance_ones, all_or_not}

-- the labels of an order
pub record LabelRow (o : Order) : Type 0 where
  pub row : List ℕ
  pub are : Labels o row

-- where there is no cycle there are labels
pub labels_exist : {heaviest : ℕ} (o : Order) → Closed heaviest o → (Cyclic o → ⊥) → LabelRow o
labels_exist o c free =
    let p = placing_exists (closed_turned o c) in
    let label : ℕ → ℕ = λ i. at p.row i + weight o i - 1 in
    record {
      row = tabulate label (size o);
      are = labels_placed o c free p.row p.number p.is (tabulate label (size o)) (tabulate_at label (size o));
    }

module _ (g : Graph) (labels units : List ℕ) (can : Doable g units) where
  -- as many advances of the rule as there are steps give the list schedule
  pub list_starts : Labels (label_order g) labels → ListStarts g units (take (many g) (after g labels units limit.steps))
  list_starts are = record { labels = labels; are_labels = are; rounds = limit.steps; all = all_placed g labels units can; is = refl }

-- ---- advances from the fresh state
-- k advances one after another, none refused
pub data Advances (g : Graph) (units : List ℕ) : ℕ → List ℕ → ℕ → Type 0 where
  fresh : Advances g units zero (replicate limit.operations 0) 1
  then : {k : ℕ} {t t' : List ℕ} {step step' : ℕ} → Advances g units k t step → AdvanceAnswer g units t step none t' step'
      → Advances g units (suc k) t' step'

-- the starts after k of them, and the step unless all are placed
pub record Come (g : Graph) (labels units : List ℕ) (k : ℕ) (t : List ℕ) (step : ℕ) : Type 0 where
  pub starts : t ≡ after g labels units k
  pub further : (AllPlaced g t → ⊥) → step ≡ k + 1

module _ (g : Graph) (labels units : List ℕ) (are : Labels (label_order g) labels) where
  -- one more, from a state that has come so far
  come_next : (k : ℕ) (t t' : List ℕ) (step step' : ℕ) → Come g labels units k t step → StateAfter g units t step none t' step'
      → Come g labels units (suc k) t' step'
  unfolding StateAfter after
  come_next k t t' step step' come state =
      ⊎_elim
      (λ all.
      let s = state.0 all in
      let whole = subst (AllPlaced g) come.starts all in
      record {
        starts = s.starts ∙ come.starts ∙ sym (stable g labels units (after g labels units k) (k + 1) whole);
        further = λ not. absurd (not (subst (AllPlaced g) (sym s.starts) all));
      })
      (λ not.
      let m = state.1 not in
      let here = come.further not in
      record {
        starts = m.starts
            ∙ stepped_same g m.labels labels units (graph_labels_one g m.labels labels m.are_labels are) t step
            ∙ ap (λ (row : List ℕ). stepped g labels units row step) come.starts
            ∙ ap (stepped g labels units (after g labels units k)) here;
        further = λ still. omega (arith, m.further);
      })
      (all_or_not g t)

  pub advances_come : {k : ℕ} {t : List ℕ} {step : ℕ} → Advances g units k t step → Come g labels units k t step
  unfolding after
  advances_come fresh = record { starts = refl; further = λ not. refl }
  advances_come (then before one) = come_next _ _ _ _ _ (advances_come before) one.state

-- a graph that can be scheduled whole has labels
pub labelled : (g : Graph) (units : List ℕ) → Doable g units → LabelRow (label_order g)
labelled g units can =
    let c = closed g can.sound in
    labels_exist (label_order g) (label_closed g c) (label_acyclic g (keeps_acyclic (order g) c can.row can.keeps))

module _ (g : Graph) (units : List ℕ) (can : Doable g units) where
  -- and give the list schedule's starts
  pub advances_list : (t : List ℕ) (step : ℕ) → Advances g units limit.steps t step → ListStarts g units (take (many g) t)
  advances_list t step all =
      let labels = labelled g units can in
      subst (λ (row : List ℕ). ListStarts g units (take (many g) row)) (sym (advances_come g labels.row units labels.are all).starts)
      (list_starts g labels.row units can labels.are)

  -- at any time before or after, refusal 11 is not given
  pub never_outside : (k : ℕ) (t : List ℕ) (step : ℕ) → Advances g units k t step → Outside g t step → ⊥
  never_outside k t step all out =
      let labels = labelled g units can in
      let come = advances_come g labels.row units labels.are all in
      let not : AllPlaced g t → ⊥ = λ placed. omega (arith, placed.each out.operation out.inside, out.unplaced) in
      let here = come.further not in
      ⊎_elim
      (λ low. omega arith)
      (λ high.
      let whole = all_placed g labels.row units can in
      not
      (subst (AllPlaced g) (sym (come.starts ∙ after_stable g labels.row units limit.steps k (omega arith) whole)) whole))
      out.out

  -- nor any other, where the graph passes: no advance from fresh is refused
  pub never_refused : First ((shape g (length units ≡ g.kinds → ⊥) ++ unitless g units) ++ cyclic (order g)) none → (k : ℕ) (t : List ℕ) (step : ℕ)
      → Advances g units k t step → (x : Option (ℕ × ℕ)) (t' : List ℕ) (step' : ℕ) → AdvanceAnswer g units t step x t' step' → x ≡ none
  never_refused passed k t step all x t' step' one =
      first_one (advance_checks g units t step) (advance_ones g units t step) x none one.first
      (first_pass ((shape g (length units ≡ g.kinds → ⊥) ++ unitless g units) ++ cyclic (order g)) (outside g t step) none passed
      (first_silent _ _ _ (flat_silent 11 _ (never_outside k t step all)) first_end))
