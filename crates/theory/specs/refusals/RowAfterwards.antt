-- The frame of a question with an output row has one outcome, and is put together from its parts: the checks of the parts, one after another.
use Rattle.std.specs.Prelude.{◌≡◌, refl, List, [], ◌∷◌, ◌++◌, ℕ}
use Rattle.std.proofs.Common.{sym, ap, subst, ◌∙◌, inl, inr, ⊎_elim}
use Rattle.std.proofs.Math.Option.{Option, none, some}
use Rattle.maths.specs.Rows.{over}
use Rattle.model.specs.Graph.{Graph}
use Rattle.model.specs.Refusals.{Check, First, shape, output, unitless}
use Rattle.model.specs.Answers.{Fills, Leaves, LeftBy, RowAfter, Answered}
use Rattle.theory.specs.refusals.OneRefusal.{Ones, first_one}
use Rattle.theory.specs.refusals.FirstRefusal.{first_hit, first_pass}

-- ---- one outcome
pub fills_one : (Is : List ℕ → Type 0) (before a b : List ℕ) → ((s t : List ℕ) → Is s → Is t → s ≡ t)
    → Fills Is before a → Fills Is before b → a ≡ b
fills_one Is before a b one x y =
    x.written ∙ ap (λ (row : List ℕ). over row before) (one x.row y.row x.is y.is) ∙ sym y.written

-- one check decides, and it leaves one row
left_one : (checks : List Check) → Ones checks → (r : ℕ × ℕ) (before a b : List ℕ) → LeftBy checks r before a → LeftBy checks r before b → a ≡ b
unfolding LeftBy Ones
left_one [] ones r before a b x y = absurd x
left_one (R ∷ rest) ones r before a b x y =
    ⊎_elim
    (λ h. ⊎_elim (λ k. ones.0.once before a b h.1 k.1) (λ k. absurd (k.0 r.0 r.1 h.0)) y)
    (λ h. ⊎_elim (λ k. absurd (h.0 r.0 r.1 k.0)) (λ k. left_one rest ones.1 r before a b h.1 k.1) y)
    x

row_one : (checks : List Check) → Ones checks → (before : List ℕ) (Given : List ℕ → Type 0) (refusal : Option (ℕ × ℕ)) (a b : List ℕ)
    → (Given a → Given b → a ≡ b) → RowAfter checks before Given refusal a → RowAfter checks before Given refusal b → a ≡ b
unfolding RowAfter
row_one checks ones before Given none a b same x y = same x y
row_one checks ones before Given (some r) a b same x y = left_one checks ones r before a b x y

-- any two outcomes that the frame allows are equal: the refusal, and the row
pub answered_one : (checks : List Check) (before : List ℕ) (Given : List ℕ → Type 0) → Ones checks
    → (x y : Option (ℕ × ℕ)) (a b : List ℕ) → (Given a → Given b → a ≡ b)
    → Answered checks before Given x a → Answered checks before Given y b → (x ≡ y) × (a ≡ b)
answered_one checks before Given ones x y a b same h k =
    let e = first_one checks ones x y h.first k.first in
    (e, row_one checks ones before Given y a b same (subst (λ (r : Option (ℕ × ℕ)). RowAfter checks before Given r a) e h.row) k.row)

-- ---- what a refusal leaves
-- what the front leaves stays so, whatever follows
left_hit : (front back : List Check) (r : ℕ × ℕ) (before after : List ℕ) → LeftBy front r before after → LeftBy (front ++ back) r before after
unfolding LeftBy
left_hit [] back r before after h = absurd h
left_hit (R ∷ front) back r before after h =
    ⊎_elim (λ k. inl k) (λ k. inr (k.0, left_hit front back r before after k.1)) h

-- where the front says nothing, the row is as the back leaves it
left_pass : (front back : List Check) (r : ℕ × ℕ) (before after : List ℕ) → First front none → LeftBy back r before after
    → LeftBy (front ++ back) r before after
unfolding First LeftBy
left_pass [] back r before after a b = b
left_pass (R ∷ front) back r before after a b = inr (a.0, left_pass front back r before after a.1 b)

-- none of the checks writes anything
unfoldable pub WritesNothing : List Check → Type 0
WritesNothing [] = Unit {0}
WritesNothing (R ∷ rest) = ((row : List ℕ) → Leaves R.writes row row) × WritesNothing rest

-- so the row stays, whichever of them is given
left_unwritten : (checks : List Check) → WritesNothing checks → (r : ℕ × ℕ) (row : List ℕ) → First checks (some r) → LeftBy checks r row row
unfolding First LeftBy WritesNothing
left_unwritten [] q r row h = absurd h
left_unwritten (R ∷ rest) q r row h = ⊎_elim (λ k. inl (k, q.0 row)) (λ k. inr (k.0, left_unwritten rest q.1 r row k.1)) h

-- the first six write nothing
pub front_unwritten : (g : Graph) (Own : Type 0) (room : ℕ) → WritesNothing (shape g Own ++ output g room)
unfolding WritesNothing
front_unwritten g Own room = (λ r. refl, (λ r. refl, (λ r. refl, (λ r. refl, (λ r. refl, tt)))))

pub front_unit_unwritten : (g : Graph) (Own : Type 0) (room : ℕ) (units : List ℕ) → WritesNothing (shape g Own ++ output g room ++ unitless g units)
unfolding WritesNothing
front_unit_unwritten g Own room units = (λ r. refl, (λ r. refl, (λ r. refl, (λ r. refl, (λ r. refl, (λ r. refl, tt))))))

-- ---- put together
pub row_given : (checks : List Check) (before : List ℕ) (Given : List ℕ → Type 0) (after : List ℕ) → Given after → RowAfter checks before Given none after
unfolding RowAfter
row_given checks before Given after g = g

pub row_is : (checks : List Check) (before : List ℕ) (Given : List ℕ → Type 0) (after : List ℕ) → RowAfter checks before Given none after → Given after
unfolding RowAfter
row_is checks before Given after g = g

-- a check that says something decides, and the row is as it leaves it
pub answered_says : (R : Check) (rest : List Check) (before : List ℕ) (Given : List ℕ → Type 0) (n p : ℕ) (after : List ℕ)
    → R.says n p → Leaves R.writes before after → Answered (R ∷ rest) before Given (some (n, p)) after
unfolding First LeftBy RowAfter
answered_says R rest before Given n p after says leaves = record { first = inl says; row = inl (says, leaves) }

-- refused by the first checks: refused, whatever follows, and whatever an answer would have given
pub answered_refused : (front back : List Check) (before : List ℕ) (Given Other : List ℕ → Type 0) (r : ℕ × ℕ) (after : List ℕ)
    → Answered front before Given (some r) after → Answered (front ++ back) before Other (some r) after
unfolding RowAfter
answered_refused front back before Given Other r after h = record {
  first = first_hit front back r h.first;
  row = left_hit front back r before after h.row;
}

-- refused is refused, whatever an answer would have given
pub answered_again : (checks : List Check) (before : List ℕ) (Given Other : List ℕ → Type 0) (r : ℕ × ℕ) (after : List ℕ)
    → Answered checks before Given (some r) after → Answered checks before Other (some r) after
unfolding RowAfter
answered_again checks before Given Other r after h = record { first = h.first; row = h.row }

-- refused by checks that write nothing: the row stays
pub refused_stays : (checks : List Check) (before : List ℕ) (Given : List ℕ → Type 0) (r : ℕ × ℕ) (after : List ℕ)
    → WritesNothing checks → First checks (some r) → after ≡ before → Answered checks before Given (some r) after
unfolding RowAfter
refused_stays checks before Given r after q h e = record {
  first = h;
  row = subst (λ (row : List ℕ). LeftBy checks r before row) (sym e) (left_unwritten checks q r before h);
}

-- what is said once the first checks have passed
row_passed : (front back : List Check) (before : List ℕ) (Given : List ℕ → Type 0) (x : Option (ℕ × ℕ)) (after : List ℕ)
    → First front none → RowAfter back before Given x after → RowAfter (front ++ back) before Given x after
unfolding RowAfter
row_passed front back before Given none after h k = k
row_passed front back before Given (some r) after h k = left_pass front back r before after h k

-- the first checks passed and left the row, and the others decide
pub answered_passed : (front back : List Check) (before : List ℕ) (Given : List ℕ → Type 0) (x : Option (ℕ × ℕ)) (after : List ℕ)
    → First front none → Answered back before Given x after → Answered (front ++ back) before Given x after
answered_passed front back before Given x after h k = record {
  first = first_pass front back x h k.first;
  row = row_passed front back before Given x after h k.row;
}
