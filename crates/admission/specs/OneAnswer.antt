-- One answer: any two outcomes that a contract of this crate allows are equal.
use Rattle.std.specs.Prelude.{◌≡◌, List, ◌++◌, ℕ, take, Result}
use Rattle.std.proofs.Common.{sym, subst, ◌∙◌, ⊎_elim, arith}
use Rattle.maths.specs.Cases.{lt_or_le}
use Rattle.maths.specs.Rows.{over, same_row}
use Rattle.model.specs.Order.{Order, size}
use Rattle.model.specs.Graph.{Graph, order}
use Rattle.model.specs.Refusals.{Check, First, shape, output, unitless, cyclic, large_bound}
use Rattle.model.specs.Answers.{refusal_of, Done}
use Rattle.model.specs.declared.Refusal.{Refusal}
use Rattle.theory.specs.refusals.OneRefusal.{Ones, ones_append, shape_ones, front_ones, graph_unit_ones, front_unit_ones}
use Rattle.theory.specs.refusals.RefusalNumbers.{answer_one, answers_one}
use Rattle.theory.specs.refusals.RowAfterwards.{answered_one}
use Rattle.theory.specs.refusals.CycleAndBounds.{cyclic_ones, large_bound_ones, late_bound_ones}
use Rattle.theory.specs.tables.OneTable.{earliest_starts_one}
use Rattle.admission.specs.Admitted.{graph_checks, graph_unit_checks, placed_checks, placed_unit_checks, bound_checks, placed_within_checks, placed_unit_within_checks, StartsRow, Started, Admitted}

-- ---- without an output row
-- of `graph`
pub graph_one : (g : Graph) (Own : Type 0) (r s : Done) → First (graph_checks g Own) (refusal_of r) → First (graph_checks g Own) (refusal_of s) → r ≡ s
graph_one g Own = answer_one (graph_checks g Own) (ones_append (shape g Own) (cyclic (order g)) (shape_ones g Own) (cyclic_ones (order g)))

-- of `graph_with_units`
pub graph_with_units_one : (g : Graph) (Own : Type 0) (units : List ℕ) (r s : Done) → First (graph_unit_checks g Own units) (refusal_of r)
    → First (graph_unit_checks g Own units) (refusal_of s) → r ≡ s
graph_with_units_one g Own units =
    answer_one (graph_unit_checks g Own units)
    (ones_append (shape g Own ++ unitless g units) (cyclic (order g)) (graph_unit_ones g Own units) (cyclic_ones (order g)))

-- of `bound_fault`
pub bound_fault_one : (bound : ℕ) (r s : Done) → First (large_bound bound) (refusal_of r) → First (large_bound bound) (refusal_of s) → r ≡ s
bound_fault_one bound = answer_one (large_bound bound) (large_bound_ones bound)

-- ---- with an output row
-- one row of earliest starts with zeros after them
starts_row_one : (o : Order) (s t : List ℕ) → StartsRow o s → StartsRow o t → s ≡ t
starts_row_one o s t a b =
    same_row s t (a.long ∙ sym b.long)
    (λ i l. ⊎_elim (λ m. earliest_starts_one o s t a.is b.is i m) (λ m. a.rest i m ∙ sym (b.rest i m)) (lt_or_le i (size o)))

-- any two outcomes of an admission are equal: the refusal or the starts, and the output row
admitted_one : (o : Order) (checks : List Check) → Ones checks → (before : List ℕ) (b c : Result (List ℕ) Refusal) (after other : List ℕ)
    → Admitted o checks before b after → Admitted o checks before c other → (b ≡ c) × (after ≡ other)
unfolding Started
admitted_one o checks ones before b c after other h k =
    let frame = answered_one checks before (λ a. a ≡ before) ones (refusal_of b) (refusal_of c) after other
    (λ x y. x ∙ sym y) h.answered k.answered in (
      answers_one b c
          (λ s t p q.
          starts_row_one o s t
          (subst (λ (r : Result (List ℕ) Refusal). Started o r) p h.started)
          (subst (λ (r : Result (List ℕ) Refusal). Started o r) q k.started))
          frame.0,
      frame.1,
    )

placed_ones : (g : Graph) (Own : Type 0) (room : ℕ) → Ones (placed_checks g Own room)
placed_ones g Own room =
    ones_append (shape g Own ++ output g room) (cyclic (order g)) (front_ones g Own room) (cyclic_ones (order g))

placed_unit_ones : (g : Graph) (Own : Type 0) (room : ℕ) (units : List ℕ) → Ones (placed_unit_checks g Own room units)
placed_unit_ones g Own room units =
    ones_append (shape g Own ++ output g room ++ unitless g units) (cyclic (order g)) (front_unit_ones g Own room units) (cyclic_ones (order g))

bound_ones : (o : Order) (bound : ℕ) → Ones (bound_checks o bound)
bound_ones o bound = ones_append (large_bound bound) _ (large_bound_ones bound) (late_bound_ones o bound)

module _ (g : Graph) (Own : Type 0) (room : ℕ) (before : List ℕ) (b c : Result (List ℕ) Refusal) (after other : List ℕ) where
  -- of `placed`
  pub placed_one : Admitted (order g) (placed_checks g Own room) before b after → Admitted (order g) (placed_checks g Own room) before c other
      → (b ≡ c) × (after ≡ other)
  placed_one = admitted_one (order g) (placed_checks g Own room) (placed_ones g Own room) before b c after other

  -- of `placed_within`
  pub placed_within_one : (bound : ℕ) → Admitted (order g) (placed_within_checks g Own room bound) before b after
      → Admitted (order g) (placed_within_checks g Own room bound) before c other → (b ≡ c) × (after ≡ other)
  placed_within_one bound =
      admitted_one (order g) (placed_within_checks g Own room bound)
      (ones_append (placed_checks g Own room) _ (placed_ones g Own room) (bound_ones (order g) bound))
      before b c after other

  module _ (units : List ℕ) where
    -- of `placed_with_units`
    pub placed_with_units_one : Admitted (order g) (placed_unit_checks g Own room units) before b after
        → Admitted (order g) (placed_unit_checks g Own room units) before c other → (b ≡ c) × (after ≡ other)
    placed_with_units_one =
        admitted_one (order g) (placed_unit_checks g Own room units) (placed_unit_ones g Own room units) before b c after other

    -- of `placed_with_units_within`
    pub placed_with_units_within_one : (bound : ℕ) → Admitted (order g) (placed_unit_within_checks g Own room units bound) before b after
        → Admitted (order g) (placed_unit_within_checks g Own room units bound) before c other → (b ≡ c) × (after ≡ other)
    placed_with_units_within_one bound =
        admitted_one (order g) (placed_unit_within_checks g Own room units bound)
        (ones_append (placed_unit_checks g Own room units) _ (placed_unit_ones g Own room units) (bound_ones (order g) bound))
        before b c after other

-- of `fill`: one content of the output
pub fill_one : (row before : List ℕ) (n : ℕ) (out other : List ℕ) → out ≡ over (take n row) before → other ≡ over (take n row) before → out ≡ other
fill_one row before n out other a b = a ∙ sym b
