-- Rows of numbers, read by index.
use Rattle.std.specs.Prelude.{◌≡◌, refl, List, [], ◌∷◌, ◌++◌, ℕ, zero, suc, ◌+◌, ◌-◌, ◌≤◌, ◌<◌, length, get_or, take, drop, replicate}
use Rattle.std.proofs.Common.{sym, ap, ◌∙◌, ⊎_elim, eq-or-lt_of_le, le_of_suc-le-suc, not-suc-le-zero, arith, length-append, length-drop, get_or-append-add, get_or-drop, get_or-take, ext_get_or, length-take-le}
use Rattle.std.proofs.Math.ListN.{get_or-append, get_or-eq_default}
use Rattle.std.proofs.Math.Seq.{get_or-append_seam}
use Rattle.maths.specs.Cases.{lt_or_le}

-- what stands at i, and 0 past the end
abbrev pub at : List ℕ → ℕ → ℕ
at row i = get_or row i 0

-- a front written over a row: the front, then what the row had after it
abbrev pub over : List ℕ → List ℕ → List ℕ
over front row = front ++ drop (length front) row

-- the row of f 0, f 1, .. f (n - 1)
unfoldable pub tabulate : (ℕ → ℕ) → ℕ → List ℕ
tabulate f zero = []
tabulate f (suc n) = tabulate f n ++ (f n ∷ [])

pub tabulate_long : (f : ℕ → ℕ) (n : ℕ) → length (tabulate f n) ≡ n
unfolding tabulate
tabulate_long f zero = refl
tabulate_long f (suc n) = omega (arith, length-append (tabulate f n) (f n ∷ []), tabulate_long f n)

pub tabulate_at : (f : ℕ → ℕ) (n i : ℕ) → i < n → at (tabulate f n) i ≡ f i
unfolding tabulate
tabulate_at f zero i l = absurd (not-suc-le-zero l)
tabulate_at f (suc n) i l =
    ⊎_elim
    (λ q.
    ap (at (tabulate f n ++ (f n ∷ []))) (q ∙ sym (tabulate_long f n))
    ∙ get_or-append_seam (tabulate f n) (f n) [] 0
    ∙ ap f (sym q))
    (λ m. get_or-append (tabulate f n) (f n ∷ []) 0 i (omega (arith, tabulate_long f n)) ∙ tabulate_at f n i m)
    (eq-or-lt_of_le (le_of_suc-le-suc l))

-- nothing stands in a row of zeros
pub blank : (n y : ℕ) → at (replicate n 0) y ≡ 0
blank zero y = refl
blank (suc n) zero = refl
blank (suc n) (suc y) = blank n y

pub past : (row : List ℕ) (i : ℕ) → length row ≤ i → at row i ≡ 0
past row i l = get_or-eq_default row 0 l

-- rows of one length that agree at every place are one row
pub same_row : (a b : List ℕ) → length a ≡ length b → ((i : ℕ) → i < length a → at a i ≡ at b i) → a ≡ b
same_row a b long each = ext_get_or 0 a b long each

module _ (front row : List ℕ) (room : length front ≤ length row) where
  pub over_long : length (over front row) ≡ length row
  over_long = omega (arith, length-append front (drop (length front) row), length-drop (length front) row)

  pub over_front : (i : ℕ) → i < length front → at (over front row) i ≡ at front i
  over_front i l = get_or-append front (drop (length front) row) 0 i l

  pub over_rest : (i : ℕ) → length front ≤ i → at (over front row) i ≡ at row i
  over_rest i l =
      let e : i ≡ length front + (i - length front) = omega arith in
      ap (at (over front row)) e
      ∙ get_or-append-add front (drop (length front) row) (i - length front) 0
      ∙ get_or-drop (length front) row (i - length front) 0
      ∙ ap (at row) (sym e)

  -- what has the front's entries and then the row's is the front over the row
  pub over_is : (o : List ℕ) → length o ≡ length row → ((i : ℕ) → i < length front → at o i ≡ at front i)
      → ((i : ℕ) → length front ≤ i → at o i ≡ at row i) → o ≡ over front row
  over_is o long fronts rests =
      same_row o (over front row) (long ∙ sym over_long)
      (λ i l.
      ⊎_elim
      (λ m. fronts i m ∙ sym (over_front i m))
      (λ m. rests i m ∙ sym (over_rest i m))
      (lt_or_le i (length front)))

-- the first n entries of a row that has as many
pub take_at : (n : ℕ) (row : List ℕ) (i : ℕ) → i < n → at (take n row) i ≡ at row i
take_at n row i l = get_or-take n row i 0 l

pub take_long : (n : ℕ) (row : List ℕ) → n ≤ length row → length (take n row) ≡ n
take_long n row l = length-take-le n row l
