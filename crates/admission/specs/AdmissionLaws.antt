-- What holds of an admission: how it is put together from its parts, and what a question may rely on once it has passed.
use Rattle.std.specs.Prelude.{◌≡◌, Bool, true, false, ◌⊎◌, List, ◌++◌, ℕ, ◌≤◌, ◌<◌, eqb, length, Result, Ok, Err}
use Rattle.std.proofs.Math.Path.{refl, subst}
use Rattle.std.proofs.Common.{sym, ap, ◌∙◌, true≢false, inl, inr, ⊎_elim, arith, ne_eqb}
use Rattle.std.proofs.Math.Option.{Option, none, some}
use Rattle.std.proofs.lemmas.Bool.{eqb-false}
use Rattle.maths.specs.Cases.{Tells, same_or_not, at_most}
use Rattle.maths.specs.Tests.{off}
use Rattle.maths.specs.TellLaws.{on}
use Rattle.maths.specs.Rows.{over}
use Rattle.model.specs.Limits as limit
use Rattle.model.specs.Order.{Order}
use Rattle.model.specs.Graph.{Graph, order, many, Sound}
use Rattle.model.specs.Tables.{Within}
use Rattle.model.specs.Refusals.{Check, First, Late, shape, output}
use Rattle.model.specs.Answers.{numbered, refusal_of, Fills, Answered}
use Rattle.model.specs.declared.Refusal.{Refusal}
use Rattle.theory.specs.refusals.FirstRefusal.{first_pass, first_none_append, flat_not}
use Rattle.theory.specs.refusals.RowAfterwards.{WritesNothing, answered_refused, answered_passed, refused_stays, row_given, row_is}
use Rattle.theory.specs.refusals.SoundGraph.{answered_own, shape_own_then, own_not, sound, room_enough}
use Rattle.theory.specs.tables.SomeLatency.{not_late_within}
use Rattle.admission.specs.Admitted.{bound_checks, StartsRow, Started, Admitted, Matches}

-- the output row stays
abbrev pub Unchanged : List ℕ → List ℕ → Type 0
Unchanged before after = after ≡ before

-- ---- put together
module _ {o : Order} (front back : List Check) {before : List ℕ} where
  -- refused by checks that write nothing: the row stays, whatever follows
  pub admitted_stopped : {why : Refusal} → WritesNothing front → First front (some (numbered why)) → Admitted o (front ++ back) before (Err why) before
  unfolding Started
  admitted_stopped {why} unwritten h = record {
    answered = answered_refused front back before (Unchanged before) (Unchanged before) (numbered why) before
        (refused_stays front before (Unchanged before) (numbered why) before unwritten h refl);
    started = tt;
  }

  -- the first checks passed, and the others decide
  pub admitted_passed : {b : Result (List ℕ) Refusal} {after : List ℕ} → First front none → Admitted o back before b after → Admitted o (front ++ back) before b after
  admitted_passed {b} {after} h k = record {
    answered = answered_passed front back before (Unchanged before) (refusal_of b) after h k.answered;
    started = k.started;
  }

-- ---- what is known of one that refused: it is refused, whatever follows, and whatever an answer would have given
module _ {o : Order} {front : List Check} {before after : List ℕ} {why : Refusal} (h : Admitted o front before (Err why) after) where
  pub admitted_refused : (back : List Check) (Given : List ℕ → Type 0) → Answered (front ++ back) before Given (some (numbered why)) after
  admitted_refused back Given = answered_refused front back before (Unchanged before) Given (numbered why) after h.answered

  pub admitted_handed : (back : List Check) → Admitted o (front ++ back) before (Err why) after
  unfolding Started
  admitted_handed back = record { answered = admitted_refused back (Unchanged before); started = tt }

-- ---- and of one that passed: no check applies, the row stays, and the starts are the earliest
module _ {o : Order} {front : List Check} {before after s : List ℕ} (h : Admitted o front before (Ok s) after) where
  pub admitted_first : First front none
  admitted_first = h.answered.first

  pub admitted_kept : after ≡ before
  admitted_kept = row_is front before (Unchanged before) after h.answered.row

  pub admitted_starts : StartsRow o s
  unfolding Started
  admitted_starts = h.started

  -- other checks follow, which read no output row
  pub admitted_then : (back : List Check) {d : Result (List ℕ) Refusal} → ((out : List ℕ) → Admitted o back out d out) → Admitted o (front ++ back) before d after
  admitted_then back {d} k =
      admitted_passed front back admitted_first
      (subst (λ (row : List ℕ). Admitted o back before d row) (sym admitted_kept) (k before))

  -- a later check that writes nothing refuses
  pub admitted_late : (back : List Check) (Given : List ℕ → Type 0) (r : ℕ × ℕ) → WritesNothing back → First back (some r)
      → Answered (front ++ back) before Given (some r) after
  admitted_late back Given r unwritten k =
      answered_passed front back before Given (some r) after admitted_first (refused_stays back before Given r after unwritten k admitted_kept)

  -- none does, and an answer is given
  pub admitted_given : (back : List Check) (Given : List ℕ → Type 0) {row : List ℕ} → First back none → Given row
      → Answered (front ++ back) before Given none row
  admitted_given back Given {row} k g = record {
    first = first_pass front back none admitted_first k;
    row = row_given (front ++ back) before Given row g;
  }

  -- a row is written over the output
  pub admitted_fills : (Is : List ℕ → Type 0) {row written : List ℕ} → written ≡ over row after → Is row → Fills Is before written
  admitted_fills Is {row} w is = record { row = row; is = is; written = w ∙ ap (over row) admitted_kept }

-- ---- the rows of the table by themselves
-- refusals 1 to 4 say the mismatch of the question's own rows in the question's words
pub first_matched : {matched : Bool} {Own : Type 0} → Matches matched Own → (g : Graph) (rest : List Check) (x : Option (ℕ × ℕ))
    → First (shape g (matched ≡ false) ++ rest) x → First (shape g Own ++ rest) x
first_matched {matched} {Own} m g rest x h = shape_own_then g (matched ≡ false) Own m.odd m.even rest x h

module _ {g : Graph} {matched : Bool} {Own : Type 0} (m : Matches matched Own) where
  pub admitted_matched : {rest : List Check} {before after : List ℕ} {b : Result (List ℕ) Refusal} → Admitted (order g) (shape g (matched ≡ false) ++ rest) before b after
      → Admitted (order g) (shape g Own ++ rest) before b after
  admitted_matched {rest} {before} {after} {b} h = record {
    answered = answered_own g (matched ≡ false) Own m.odd m.even rest before (Unchanged before) (refusal_of b) after h.answered;
    started = h.started;
  }

-- where no check applies the graph is sound, and the question's own rows match
module _ (g : Graph) (Own : Type 0) (rest : List Check) (h : First (shape g Own ++ rest) none) where
  shaped : First (shape g Own) none
  shaped = (first_none_append (shape g Own) rest h).0

  pub passed_sound : Sound g
  passed_sound = sound g Own shaped

  pub passed_own : Own → ⊥
  passed_own = own_not g Own shaped

  pub passed_rest : First rest none
  passed_rest = (first_none_append (shape g Own) rest h).1

-- and the output has room
pub passed_room : (g : Graph) (Own : Type 0) (room : ℕ) (rest : List Check) → First (shape g Own ++ (output g room ++ rest)) none → many g ≤ room
passed_room g Own room rest h = room_enough g room (first_none_append (output g room) rest (passed_rest g Own (output g room ++ rest) h)).0

-- the same of an admission that passed
module _ {g : Graph} {Own : Type 0} {rest : List Check} {before after s : List ℕ}
    (h : Admitted (order g) (shape g Own ++ (output g (length before) ++ rest)) before (Ok s) after) where
  pub admitted_sound : Sound g
  admitted_sound = passed_sound g Own (output g (length before) ++ rest) (admitted_first h)

  pub admitted_room : many g ≤ length after
  admitted_room = omega (arith, passed_room g Own (length before) rest (admitted_first h), ap length (admitted_kept h))

-- the bound is within the last step, and leaves the earliest starts room
module _ (o : Order) (bound : ℕ) (h : First (bound_checks o bound) none) where
  pub bound_low : bound ≤ limit.steps
  unfolding First
  bound_low = at_most (flat_not 8 (limit.steps < bound) h.0)

  pub bound_within : {s : List ℕ} → StartsRow o s → Within o bound s
  unfolding First
  bound_within {s} row = not_late_within o s bound row.is (flat_not 9 (Late o bound) h.1.0)

-- ---- whether a question's own rows match
-- it has none
pub matches_none : Matches true ⊥
matches_none = record { odd = true≢false; even = λ x. absurd x }

-- one row, whose length must be another's
pub matches_equal : (a b : ℕ) → Matches (eqb a b) (a ≡ b → ⊥)
matches_equal a b = record { odd = eqb-false a b; even = ne_eqb a b }

-- two rows
pub matches_both : {matched : Bool} {a b c d : ℕ} → Tells matched ((a ≡ b) × (c ≡ d)) → Matches matched ((a ≡ b → ⊥) ⊎ (c ≡ d → ⊥))
matches_both {matched} {a} {b} t = record {
  odd = λ not. ⊎_elim (λ same. inr (λ other. t.none not (same, other))) (λ n. inl n) (same_or_not a b);
  even = ⊎_elim (λ n. off matched (λ yes. n (t.yes yes).0)) (λ n. off matched (λ yes. n (t.yes yes).1));
}

-- where they do not fail to match, they match
pub matches_yes : {matched : Bool} {Own : Type 0} → Matches matched Own → (Own → ⊥) → matched ≡ true
matches_yes {matched} m not = on matched (λ no. not (m.odd no))
