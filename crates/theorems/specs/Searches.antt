-- The lowest number with a property, said as a number: where none has it, the number of places. What a search gives as an Option is the same; and of
-- two numbers the lower one, taken step by step.
use Rattle.std.specs.Prelude.{◌≡◌, ℕ, ◌+◌, ◌≤◌, ◌<◌, Option, None as Nothing, Some, unwrap_or}
use Rattle.std.proofs.Common.{sym, ⊎_elim, arith, below_none, below_more}
use Rattle.maths.specs.Cases.{lt_or_le}
use Rattle.maths.specs.Lowest.{None, Lowest}
use Rattle.maths.specs.Search.{LowestIf}

-- r is the lowest number below n with P, or n where none has it
pub record LowestOr (P : ℕ → Type 0) (n r : ℕ) : Type 0 where
  pub within : r ≤ n
  pub none_before : None P r
  pub found : r < n → P r

-- it is the lowest where it lies below n, none has P where it is n, and there is one
module _ {P : ℕ → Type 0} {n r : ℕ} (h : LowestOr P n r) where
  pub lowest_or_lowest : r < n → Lowest P n r
  lowest_or_lowest l = record { inside = l; holds = h.found l; none_before = h.none_before }

  pub lowest_or_none : n ≤ r → None P n
  lowest_or_none l k b = h.none_before k (omega arith)

-- the search stands at i, at most n, and passed no place with P
pub record Passed (P : ℕ → Type 0) (n i : ℕ) : Type 0 where
  pub within : i ≤ n
  pub none : None P i

-- at the start nothing is passed
pub passed_none : {P : ℕ → Type 0} {n : ℕ} → Passed P n 0
passed_none {P} = record { within = omega arith; none = below_none (λ k. P k → ⊥) }

-- one more place is passed, which has not P
pub passed_step : {P : ℕ → Type 0} {n i : ℕ} → Passed P n i → i < n → (P i → ⊥) → Passed P n (i + 1)
passed_step {P} {n} {i} h l x = record { within = omega arith; none = below_more (λ k. P k → ⊥) i h.none x }

-- the search stops at a place with P
pub passed_found : {P : ℕ → Type 0} {n i : ℕ} → Passed P n i → P i → LowestOr P n i
passed_found h p = record { within = h.within; none_before = h.none; found = λ l. p }

-- the search comes to the end
pub passed_end : {P : ℕ → Type 0} {n i : ℕ} → Passed P n i → n ≤ i → LowestOr P n i
passed_end h e = record { within = h.within; none_before = h.none; found = λ l. absurd (omega arith) }

-- what is found as an Option is found as a number
pub lowest_if_or : {P : ℕ → Type 0} {n : ℕ} (r : Option ℕ) → LowestIf P n r → LowestOr P n (unwrap_or r n)
lowest_if_or Nothing h = record { within = omega arith; none_before = h; found = λ l. absurd (omega arith) }
lowest_if_or (Some r) h = record { within = omega (arith, h.inside); none_before = h.none_before; found = λ l. h.holds }

-- ---- one operation more
-- r is the lower of `kind` and `lowest` where `kind` has no unit, and `lowest` where it has
pub record Lowered (kind units lowest r : ℕ) : Type 0 where
  pub within : r ≤ lowest
  pub reached : units ≡ 0 → r ≤ kind
  pub newly : r < lowest → r ≡ kind
  pub unitless : r < lowest → units ≡ 0

-- it is one number
pub lower_one : (kind units lowest r s : ℕ) → Lowered kind units lowest r → Lowered kind units lowest s → r ≡ s
lower_one kind units lowest r s a b =
    ⊎_elim
    (λ l. at_new l a b)
    (λ h. ⊎_elim (λ l. sym (at_new l b a)) (λ k. omega (arith, a.within, b.within)) (lt_or_le s lowest))
    (lt_or_le r lowest)
  where
    at_new : {r s : ℕ} → r < lowest → Lowered kind units lowest r → Lowered kind units lowest s → r ≡ s
    at_new {r} {s} l a b =
        let low = b.reached (a.unitless l) in
        let new = a.newly l in
        omega (arith, b.newly (omega arith))
