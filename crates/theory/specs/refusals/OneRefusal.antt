-- The table says one refusal at most: each check says one thing, and the first that says something decides.
use Rattle.std.specs.Prelude.{◌≡◌, refl, List, [], ◌∷◌, ◌++◌, ℕ, ◌<◌}
use Rattle.std.proofs.Common.{sym, ap, ◌∙◌, ⊎_elim}
use Rattle.std.proofs.Math.Option.{Option, none, some}
use Rattle.maths.specs.Lowest.{lowest_one}
use Rattle.model.specs.Graph.{Graph, many, edges_of}
use Rattle.model.specs.Refusals.{Check, unwritten, First, Flat, AtLowest, Large, Uneven, BadOperation, BadEdge, NoUnit, shape, output, unitless}
use Rattle.model.specs.Answers.{Leaves}

-- ---- one answer
-- a check says one thing at most, and leaves one row
pub record One (R : Check) : Type 0 where
  pub same : (n p m q : ℕ) → R.says n p → R.says m q → ◌≡◌ {A = ℕ × ℕ} (n, p) (m, q)
  pub once : (before a b : List ℕ) → Leaves R.writes before a → Leaves R.writes before b → a ≡ b

-- each of them does
unfoldable pub Ones : List Check → Type 0
Ones [] = Unit {0}
Ones (R ∷ rest) = One R × Ones rest

-- what the first check that applies says is one thing
pub first_one : (checks : List Check) → Ones checks → (x y : Option (ℕ × ℕ)) → First checks x → First checks y → x ≡ y
unfolding First Ones
first_one [] o none none a b = refl
first_one [] o none (some s) a b = absurd b
first_one [] o (some r) y a b = absurd a
first_one (R ∷ rest) o none none a b = refl
first_one (R ∷ rest) o none (some s) a b =
    ⊎_elim (λ h. absurd (a.0 s.0 s.1 h)) (λ h. first_one rest o.1 none (some s) a.1 h.1) b
first_one (R ∷ rest) o (some r) none a b =
    ⊎_elim (λ h. absurd (b.0 r.0 r.1 h)) (λ h. first_one rest o.1 (some r) none h.1 b.1) a
first_one (R ∷ rest) o (some r) (some s) a b =
    ⊎_elim
    (λ h. ⊎_elim (λ k. ap some (o.0.same r.0 r.1 s.0 s.1 h k)) (λ k. absurd (k.0 r.0 r.1 h)) b)
    (λ h. ⊎_elim (λ k. absurd (h.0 s.0 s.1 k)) (λ k. first_one rest o.1 (some r) (some s) h.1 k.1) b)
    a

-- number and place are fixed
pub flat_one : (number : ℕ) (P : Type 0) → One (unwritten (Flat number P))
flat_one number P = record {
  same = λ n p m q a b. rw (a.is, a.nowhere, b.is, b.nowhere);
  once = λ before a b x y. x ∙ sym y;
}

-- the number is fixed, and there is one lowest place at most
pub at_lowest_one : (number among : ℕ) (P : ℕ → Type 0) → One (unwritten (AtLowest number among P))
at_lowest_one number among P = record {
  same = λ n p m q a b. rw (a.is, b.is, lowest_one P among p q a.lowest b.lowest);
  once = λ before a b x y. x ∙ sym y;
}

-- checks of two lists in one
pub ones_append : (front back : List Check) → Ones front → Ones back → Ones (front ++ back)
unfolding Ones
ones_append [] back a b = b
ones_append (R ∷ front) back a b = (a.0, ones_append front back a.1 b)

-- a list of one check
pub ones_single : (R : Check) → One R → Ones (R ∷ [])
unfolding Ones
ones_single R o = (o, tt)

-- each row of the table that `admission` checks says one thing at most
pub shape_ones : (g : Graph) (Own : Type 0) → Ones (shape g Own)
unfolding Ones
shape_ones g Own = (
  flat_one 1 (Large g),
  (flat_one 2 (Uneven g Own), (at_lowest_one 3 (many g) (BadOperation g), (at_lowest_one 4 (edges_of g) (BadEdge g), tt))),
)

pub output_ones : (g : Graph) (room : ℕ) → Ones (output g room)
output_ones g room = ones_single _ (flat_one 5 (room < many g))

pub unitless_ones : (g : Graph) (units : List ℕ) → Ones (unitless g units)
unitless_ones g units = ones_single _ (at_lowest_one 6 g.kinds (NoUnit g units))

-- so does each of the first five, of the first four and the sixth, and of the first six
pub front_ones : (g : Graph) (Own : Type 0) (room : ℕ) → Ones (shape g Own ++ output g room)
front_ones g Own room = ones_append (shape g Own) (output g room) (shape_ones g Own) (output_ones g room)

pub graph_unit_ones : (g : Graph) (Own : Type 0) (units : List ℕ) → Ones (shape g Own ++ unitless g units)
graph_unit_ones g Own units = ones_append (shape g Own) (unitless g units) (shape_ones g Own) (unitless_ones g units)

pub front_unit_ones : (g : Graph) (Own : Type 0) (room : ℕ) (units : List ℕ) → Ones ((shape g Own ++ output g room) ++ unitless g units)
front_unit_ones g Own room units = ones_append (shape g Own ++ output g room) (unitless g units) (front_ones g Own room) (unitless_ones g units)
