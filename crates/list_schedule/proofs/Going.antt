-- The loop of `schedule`: before step l the starts are those after l - 1 advances from fresh; after the last step all are placed.
use Rattle.std.specs.Prelude.{◌≡◌, refl, List, ℕ, suc, ◌+◌, ◌≤◌, ◌<◌, length, take, replicate}
use Rattle.std.proofs.Common.{sym, ap, subst, ◌∙◌, arith}
use Rattle.std.proofs.lemmas.List.{length-replicate}
use Rattle.maths.specs.Rows.{at, blank}
use Rattle.model.specs.Limits as limit
use Rattle.model.specs.Order.{Cyclic}
use Rattle.model.specs.Graph.{Graph, many, order}
use Rattle.model.specs.Rule.{Labels, label_order, stepped, AllPlaced, after}
use Rattle.theory.specs.refusals.SoundGraph.{closed}
use Rattle.theory.specs.tables.KeepingStarts.{keeps_acyclic}
use Rattle.theory.specs.list.LabelValues.{graph_labels_one}
use Rattle.theory.specs.list.OneStep.{stepped_long, rest_stays}
use Rattle.theory.specs.list.Progress.{Doable}
use Rattle.theory.specs.list.OneListSchedule.{stepped_same, after_stable, all_placed}
use Rattle.model.specs.Scheduling.{Moves}
use Rattle.list_step.specs.Priority.{Priority}
use Rattle.list_schedule.specs.WholeSchedule.{Full, ListRow}

-- the starts before a step
pub record Going (g : Graph) (units t : List ℕ) (step : ℕ) : Type 0 where
  pub labels : List ℕ
  pub are_labels : Labels (label_order g) labels
  pub rounds : ℕ
  pub next : step ≡ rounds + 1
  pub long : length t ≡ limit.operations
  pub is : t ≡ after g labels units rounds
  pub rest : (i : ℕ) → many g ≤ i → at t i ≡ 0

pub all_full : (g : Graph) (t : List ℕ) → Full (many g) t → AllPlaced g t
all_full g t h = record { each = h.each }

pub full_all : (g : Graph) (t : List ℕ) → AllPlaced g t → Full (many g) t
full_all g t h = record { each = h.each }

-- a row that keeps the order shuts cycles out
pub acyclic : {g : Graph} {units : List ℕ} → Doable g units → Cyclic (order g) → ⊥
acyclic {g} can = keeps_acyclic (order g) (closed g can.sound) can.row can.keeps

pub going_none : {g : Graph} {units row : List ℕ} → Priority g row → Going g units (replicate limit.operations 0) 1
unfolding after
going_none h = record {
  labels = h.labels;
  are_labels = h.are_labels;
  rounds = 0;
  next = refl;
  long = length-replicate {A = ℕ} limit.operations 0;
  is = refl;
  rest = λ i l. blank limit.operations i;
}

module _ {g : Graph} {units t : List ℕ} {step : ℕ} (h : Going g units t step) where
  -- after the last step all are placed
  pub going_full : Doable g units → limit.steps < step → Full (many g) t
  going_full can past =
      let whole = all_placed g h.labels units can in
      let same = h.is ∙ after_stable g h.labels units limit.steps h.rounds (omega (arith, h.next)) whole in
      full_all g t (subst (AllPlaced g) (sym same) whole)

  pub going_step : {t' : List ℕ} → Moves g units t step t' (step + 1) → Going g units t' (step + 1)
  unfolding after
  going_step {t'} m =
      let same = graph_labels_one g m.labels h.labels m.are_labels h.are_labels in
      record {
        labels = h.labels;
        are_labels = h.are_labels;
        rounds = suc h.rounds;
        next = omega (arith, h.next);
        long = ap length m.starts ∙ stepped_long g m.labels units t step ∙ h.long;
        is = m.starts
            ∙ stepped_same g m.labels h.labels units same t step
            ∙ ap (λ (row : List ℕ). stepped g h.labels units row step) h.is
            ∙ ap (stepped g h.labels units (after g h.labels units h.rounds)) h.next;
        rest = λ i l. ap (λ (row : List ℕ). at row i) m.starts ∙ rest_stays g m.labels units t step i l ∙ h.rest i l;
      }

  pub going_end : Full (many g) t → ListRow g units t
  going_end all = record {
    long = h.long;
    are = record {
      labels = h.labels;
      are_labels = h.are_labels;
      rounds = h.rounds;
      all = subst (AllPlaced g) h.is (all_full g t all);
      is = ap (take (many g)) h.is;
    };
    rest = h.rest;
  }
