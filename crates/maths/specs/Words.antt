-- Rows compared as words: the first entry weighs most. All words over 1 to b, in increasing order.
use Rattle.std.specs.Prelude.{◌≡◌, Bool, true, false, List, [], ◌∷◌, ◌++◌, map, ℕ, zero, suc, ◌<◌}
use Rattle.maths.specs.Rows.{at}

-- a and b agree below k
pub record Same (k : ℕ) (a b : List ℕ) : Type 0 where
  pub upto : (j : ℕ) → j < k → at a j ≡ at b j

-- a comes before b, as words of n entries
pub record Before (n : ℕ) (a b : List ℕ) : Type 0 where
  pub place : ℕ
  pub inside : place < n
  pub same : Same place a b
  pub less : at a place < at b place

-- the lists f 1, f 2, .. f k, one behind the other
unfoldable pub joined : (ℕ → List (List ℕ)) → ℕ → List (List ℕ)
joined f zero = []
joined f (suc k) = joined f k ++ f (suc k)

-- all rows of n entries from 1 to b, in increasing order
unfoldable pub words : ℕ → ℕ → List (List ℕ)
words zero b = [] ∷ []
words (suc n) b = joined (λ s. map (λ (row : List ℕ). s ∷ row) (words n b)) b

abbrev pub keep_if : Bool → List ℕ → List (List ℕ) → List (List ℕ)
keep_if true row rest = row ∷ rest
keep_if false row rest = rest

-- the rows that pass a test, in their order
unfoldable pub keep : (List ℕ → Bool) → List (List ℕ) → List (List ℕ)
keep p [] = []
keep p (row ∷ rest) = keep_if (p row) row (keep p rest)
