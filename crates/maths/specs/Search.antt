-- A search from the front: the lowest number with a property, where there is one; none of the places passed has it.
use Rattle.std.specs.Prelude.{◌≡◌, refl, ℕ, ◌+◌, ◌<◌, Option, None as Nothing, Some}
use Rattle.std.proofs.Common.{ap, below_more}
use Rattle.maths.specs.Lowest.{None, Lowest, lowest_one}

-- r is the lowest number below n with P, and nothing where none has it
abbrev pub LowestIf : (ℕ → Type 0) → ℕ → Option ℕ → Type 0
LowestIf P n Nothing = None P n
LowestIf P n (Some r) = Lowest P n r

-- one more place is passed, which has not P
pub none_further : {P : ℕ → Type 0} {i : ℕ} → None P i → (P i → ⊥) → None P (i + 1)
none_further {P} {i} h x = below_more (λ k. P k → ⊥) i h x

-- what is found is one answer
pub lowest_if_one : (P : ℕ → Type 0) (n : ℕ) (r s : Option ℕ) → LowestIf P n r → LowestIf P n s → r ≡ s
lowest_if_one P n Nothing Nothing a b = refl
lowest_if_one P n Nothing (Some s) a b = absurd (a s b.inside b.holds)
lowest_if_one P n (Some r) Nothing a b = absurd (b r a.inside a.holds)
lowest_if_one P n (Some r) (Some s) a b = ap Some (lowest_one P n r s a b)
