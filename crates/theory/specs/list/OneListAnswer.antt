-- What the list schedule's checks leave; the list schedule and its advance have one answer for each input.
use Rattle.std.specs.Prelude.{◌≡◌, refl, ◌⊎◌, List, ◌++◌, ℕ, ◌≤◌, ◌<◌, eqb, length, Result, Ok, Err}
use Rattle.std.proofs.Common.{sym, ap, subst, ◌∙◌, inl, inr, ⊎_elim, arith, eq-eqb, eqb-true}
use Rattle.std.proofs.Math.Option.{Option, none, some}
use Rattle.maths.specs.Cases.{none_some, some_one}
use Rattle.maths.specs.Rows.{at, over}
use Rattle.maths.specs.Counting.{some_or_none}
use Rattle.model.specs.Order.{Order, Closed}
use Rattle.model.specs.Graph.{Graph, Sound, order, many, delay, busy_time}
use Rattle.model.specs.Tables.{Latency}
use Rattle.model.specs.Refusals.{First, shape, output, unitless, cyclic, Outside, outside}
use Rattle.model.specs.Rule.{AllPlaced}
use Rattle.model.specs.Scheduling.{ListGiven, ListAnswer, Moves, Stays, StateAfter, AdvanceAnswer}
use Rattle.model.specs.Checks.{list_checks, advance_checks}
use Rattle.model.specs.declared.Refusal.{Refusal}
use Rattle.theory.specs.refusals.OneRefusal.{Ones, first_one, flat_one, ones_single, ones_append, graph_unit_ones, front_unit_ones}
use Rattle.theory.specs.refusals.SoundGraph.{has_unit, closed}
use Rattle.theory.specs.refusals.RefusalNumbers.{numbered_one}
use Rattle.theory.specs.refusals.RowAfterwards.{answered_one, row_is}
use Rattle.theory.specs.tables.OneTable.{latency_one}
use Rattle.theory.specs.order.Decided.{EarliestRow, kept_decided, acyclic_earliest}
use Rattle.theory.specs.cycle.SomeShown.{cyclic_shown}
use Rattle.theory.specs.refusals.CycleAndBounds.{cyclic_ones}
use Rattle.theory.specs.list.LabelValues.{graph_labels_one}
use Rattle.theory.specs.list.Progress.{Doable}
use Rattle.theory.specs.list.OneListSchedule.{stepped_same, list_starts_one}

-- ---- what the checks leave
-- without a cycle to show there are earliest starts
pub uncycled : {heaviest : ℕ} (o : Order) → Closed heaviest o → First (cyclic o) none → EarliestRow o
unfolding First
uncycled o c h =
    acyclic_earliest c
    (λ around.
    let some = cyclic_shown c (kept_decided c) around in
    h.0 7 (length some.cycle) (record { is = refl; cycle = some.cycle; shown = some.shown; long = refl }))

-- a graph that refusals 1 to 4, 6 and 7 let by can be scheduled whole
pub doable : (g : Graph) (units : List ℕ) → Sound g → ((i : ℕ) → i < many g → busy_time g i ≤ delay g i) → First (unitless g units) none
    → First (cyclic (order g)) none → Doable g units
doable g units s freed staffed free =
    let early = uncycled (order g) (closed g s) free in
    record {
      sound = s;
      staffed = has_unit g units s staffed;
      freed = freed;
      row = early.row;
      keeps = early.earliest.keeps;
    }

-- ---- one answer
list_ones : (g : Graph) (units : List ℕ) (room : ℕ) → Ones (list_checks g units room)
list_ones g units room =
    ones_append ((shape g (length units ≡ g.kinds → ⊥) ++ output g room) ++ unitless g units) (cyclic (order g))
    (front_unit_ones g (length units ≡ g.kinds → ⊥) room units)
    (cyclic_ones (order g))

pub advance_ones : (g : Graph) (units t : List ℕ) (step : ℕ) → Ones (advance_checks g units t step)
advance_ones g units t step =
    ones_append ((shape g (length units ≡ g.kinds → ⊥) ++ unitless g units) ++ cyclic (order g)) (outside g t step)
    (ones_append (shape g (length units ≡ g.kinds → ⊥) ++ unitless g units) (cyclic (order g))
    (graph_unit_ones g (length units ≡ g.kinds → ⊥) units)
    (cyclic_ones (order g)))
    (ones_single _ (flat_one 11 (Outside g t step)))

-- the same list schedule has the same latency and is written alike
given_one : (g : Graph) (units before : List ℕ) (l m : ℕ) (a b : List ℕ) → ListGiven g units before l a → ListGiven g units before m b
    → (l ≡ m) × (a ≡ b)
given_one g units before l m a b x y =
    let same = list_starts_one g units x.starts y.starts x.are y.are in (
      latency_one (subst (λ (t : List ℕ). Latency (order g) t l) same x.ends) y.ends,
      x.written ∙ ap (λ (t : List ℕ). over t before) same ∙ sym y.written,
    )

-- any two outcomes that the list schedule's contract allows are equal, answer and row
pub list_answer_one : (g : Graph) (units out : List ℕ) (r s : Result ℕ Refusal) (a b : List ℕ)
    → ListAnswer g units out r a → ListAnswer g units out s b → (r ≡ s) × (a ≡ b)
list_answer_one g units out (Ok l) (Ok m) a b x y =
    let same = given_one g units out l m a b (row_is (list_checks g units (length out)) out (ListGiven g units out l) a x.row) (row_is (list_checks g units (length out)) out (ListGiven g units out m) b y.row) in
    (ap Ok same.0, same.1)
list_answer_one g units out (Ok l) (Err w) a b x y =
    absurd (none_some (first_one (list_checks g units (length out)) (list_ones g units (length out)) _ _ x.first y.first))
list_answer_one g units out (Err w) (Ok m) a b x y =
    absurd (none_some (first_one (list_checks g units (length out)) (list_ones g units (length out)) _ _ y.first x.first))
list_answer_one g units out (Err v) (Err w) a b x y =
    let both = answered_one (list_checks g units (length out)) out (ListGiven g units out 0) (list_ones g units (length out)) _ _ a b
    (λ p q. (given_one g units out 0 0 a b p q).1) x y in
    (ap Err (numbered_one v w (some_one both.0)), both.1)

-- all are placed, or not
pub all_or_not : (g : Graph) (t : List ℕ) → AllPlaced g t ⊎ (AllPlaced g t → ⊥)
all_or_not g t =
    ⊎_elim
    (λ w. inr (λ all. omega (arith, all.each w.place w.inside, eqb-true (at t w.place) 0 w.passes)))
    (λ none.
    inl
    (record {
      each = λ i l.
          let some : at t i ≡ 0 → ⊥ = λ z. none i l (eq-eqb (at t i) 0 z) in
          omega arith;
    }))
    (some_or_none (λ i. eqb (at t i) 0) (many g))

stays_one : (t : List ℕ) (step : ℕ) (a b : List ℕ) (m n : ℕ) → Stays t step a m → Stays t step b n → (a ≡ b) × (m ≡ n)
stays_one t step a b m n x y = (x.starts ∙ sym y.starts, x.same ∙ sym y.same)

pub moves_one : (g : Graph) (units t : List ℕ) (step : ℕ) (a b : List ℕ) (m n : ℕ) → Moves g units t step a m → Moves g units t step b n
    → (a ≡ b) × (m ≡ n)
moves_one g units t step a b m n x y = (
  x.starts
      ∙ stepped_same g x.labels y.labels units (graph_labels_one g x.labels y.labels x.are_labels y.are_labels) t step
      ∙ sym y.starts,
  x.further ∙ sym y.further,
)

state_one : (g : Graph) (units t : List ℕ) (step : ℕ) (x : Option (ℕ × ℕ)) (a b : List ℕ) (m n : ℕ) → StateAfter g units t step x a m
    → StateAfter g units t step x b n → (a ≡ b) × (m ≡ n)
unfolding StateAfter
state_one g units t step none a b m n p q =
    ⊎_elim
    (λ all. stays_one t step a b m n (p.0 all) (q.0 all))
    (λ not. moves_one g units t step a b m n (p.1 not) (q.1 not))
    (all_or_not g t)
state_one g units t step (some r) a b m n p q = stays_one t step a b m n p q

-- any two outcomes that the advance's contract allows are equal, refusal and state
pub advance_answer_one : (g : Graph) (units t : List ℕ) (step : ℕ) (x y : Option (ℕ × ℕ)) (a b : List ℕ) (m n : ℕ)
    → AdvanceAnswer g units t step x a m → AdvanceAnswer g units t step y b n → (x ≡ y) × (a ≡ b) × (m ≡ n)
advance_answer_one g units t step x y a b m n p q =
    let e = first_one (advance_checks g units t step) (advance_ones g units t step) x y p.first q.first in
    let same = state_one g units t step y a b m n (subst (λ (r : Option (ℕ × ℕ)). StateAfter g units t step r a m) e p.state) q.state in
    (e, same.0, same.1)
