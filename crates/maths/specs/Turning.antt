-- Rows turned: the other way round, and to begin at another place.
use Rattle.std.specs.Prelude.{◌≡◌, refl, ℕ, suc, ◌+◌, ◌-◌, ◌≤◌, ◌<◌, length, take, drop}
use Rattle.std.proofs.Common.{ap, ◌∙◌, ⊎_elim, arith, length-append, length-take, length-drop, get_or-append-add, get_or-drop, get_or-take}
use mathlib.Core.List.{List, [], ◌∷◌, ◌++◌, reverse, reverse-cons}
use Rattle.std.proofs.Math.ListN.{get_or-append}
use Rattle.maths.specs.Cases.{lt_or_le}
use Rattle.maths.specs.Rows.{at}

-- a row turned to begin at a place: what stands before it comes last
abbrev pub beginning_at : ℕ → List ℕ → List ℕ
beginning_at n row = drop n row ++ take n row

-- the other way round a row is as long
pub reverse_long : (row : List ℕ) → length (reverse row) ≡ length row
reverse_long [] = refl
reverse_long (x ∷ row) =
    let long = reverse_long row in
    let one : length (reverse row ++ (x ∷ [])) ≡ length (x ∷ row) = omega (arith, length-append (reverse row) (x ∷ [])) in
    ap length (reverse-cons x row) ∙ one

-- and what stood k before the end stands at k
pub reverse_at : (row : List ℕ) (k : ℕ) → k < length row → at (reverse row) k ≡ at row (length row - 1 - k)
reverse_at [] k l = absurd (omega arith)
reverse_at (x ∷ row) k l =
    let long = reverse_long row in
    ap (λ (r : List ℕ). at r k) (reverse-cons x row)
    ∙ ⊎_elim
    (λ m.
    let e : suc (length row - 1 - k) ≡ length (x ∷ row) - 1 - k = omega arith in
    get_or-append (reverse row) (x ∷ []) 0 k (omega arith) ∙ reverse_at row k m ∙ ap (at (x ∷ row)) e)
    (λ m.
    let here : k ≡ length (reverse row) + 0 = omega arith in
    let first : 0 ≡ length (x ∷ row) - 1 - k = omega arith in
    ap (at (reverse row ++ (x ∷ []))) here ∙ get_or-append-add (reverse row) (x ∷ []) 0 0 ∙ ap (at (x ∷ row)) first)
    (lt_or_le k (length row))

module _ (row : List ℕ) (n : ℕ) where
  -- turned, a row is as long
  pub beginning_long : length (beginning_at n row) ≡ length row
  beginning_long = omega (arith, length-append (drop n row) (take n row), length-drop n row, length-take n row)

  -- up to its end it goes on from the place
  pub beginning_on : (k : ℕ) → n + k < length row → at (beginning_at n row) k ≡ at row (n + k)
  beginning_on k l =
      get_or-append (drop n row) (take n row) 0 k (omega (arith, length-drop n row)) ∙ get_or-drop n row k 0

  -- and then from its beginning
  pub beginning_around : (k j : ℕ) → n ≤ length row → n + k ≡ length row + j → j < n → at (beginning_at n row) k ≡ at row j
  beginning_around k j inside e l =
      let here : k ≡ length (drop n row) + j = omega (arith, length-drop n row) in
      ap (at (beginning_at n row)) here ∙ get_or-append-add (drop n row) (take n row) j 0 ∙ get_or-take n row j 0 l
