-- The tables' answers have one outcome for every input: the refusal, and the output row.
use Rattle.std.specs.Prelude.{◌≡◌, List, ◌++◌, ℕ, length}
use Rattle.model.specs.Graph.{Graph, order}
use Rattle.model.specs.Tables.{Asap, Alap, Mobility}
use Rattle.model.specs.Refusals.{Check, shape, output, cyclic, large_bound, late_bound}
use Rattle.model.specs.Checks.{asap_checks, alap_checks}
use Rattle.model.specs.Answers.{refusal_of, Done, Fills, Answered, AsapAnswer, AlapAnswer, MobilityAnswer}
use Rattle.theory.specs.tables.OneTable.{asap_one, alap_one, mobility_one}
use Rattle.theory.specs.refusals.OneRefusal.{Ones, ones_append, front_ones}
use Rattle.theory.specs.refusals.RefusalNumbers.{refusal_one}
use Rattle.theory.specs.refusals.RowAfterwards.{answered_one, fills_one}
use Rattle.theory.specs.refusals.CycleAndBounds.{cyclic_ones, large_bound_ones, late_bound_ones}

asap_ones : (g : Graph) (room : ℕ) → Ones (asap_checks g room)
asap_ones g room =
    ones_append (shape g ⊥ ++ output g room) (cyclic (order g))
    (front_ones g ⊥ room)
    (cyclic_ones (order g))

alap_ones : (g : Graph) (bound room : ℕ) → Ones (alap_checks g bound room)
alap_ones g bound room =
    ones_append (asap_checks g room) (large_bound bound ++ late_bound (order g) bound) (asap_ones g room)
    (ones_append (large_bound bound) (late_bound (order g) bound) (large_bound_ones bound) (late_bound_ones (order g) bound))

-- ---- a question that fills a row with the one row that `Is`
filled_one : (checks : List Check) (before : List ℕ) (Is : List ℕ → Type 0) → Ones checks → ((s t : List ℕ) → Is s → Is t → s ≡ t)
    → (r r' : Done) (after after' : List ℕ) → Answered checks before (Fills Is before) (refusal_of r) after
    → Answered checks before (Fills Is before) (refusal_of r') after' → (r ≡ r') × (after ≡ after')
filled_one checks before Is ones one r r' after after' h k =
    let frame = answered_one checks before (Fills Is before) ones (refusal_of r) (refusal_of r') after after'
    (fills_one Is before after after' one) h k in
    (refusal_one r r' frame.0, frame.1)

pub asap_answer_one : (g : Graph) (out : List ℕ) (r r' : Done) (after after' : List ℕ) → AsapAnswer g out r after → AsapAnswer g out r' after'
    → (r ≡ r') × (after ≡ after')
asap_answer_one g out = filled_one (asap_checks g (length out)) out (Asap g) (asap_ones g (length out)) (asap_one g)

pub alap_answer_one : (g : Graph) (bound : ℕ) (out : List ℕ) (r r' : Done) (after after' : List ℕ) → AlapAnswer g bound out r after
    → AlapAnswer g bound out r' after' → (r ≡ r') × (after ≡ after')
alap_answer_one g bound out =
    filled_one (alap_checks g bound (length out)) out (Alap g bound) (alap_ones g bound (length out)) (alap_one g bound)

pub mobility_answer_one : (g : Graph) (bound : ℕ) (out : List ℕ) (r r' : Done) (after after' : List ℕ) → MobilityAnswer g bound out r after
    → MobilityAnswer g bound out r' after' → (r ≡ r') × (after ≡ after')
mobility_answer_one g bound out =
    filled_one (alap_checks g bound (length out)) out (Mobility g bound) (alap_ones g bound (length out)) (mobility_one g bound)
