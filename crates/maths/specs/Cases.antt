-- How two numbers lie to each other, what a test tells, and what is there or not: the case splits that every proof leans on.
use Rattle.std.specs.Prelude.{◌≡◌, refl, ◌⊎◌, Bool, true, false, ℕ, ◌≤◌, ◌<◌}
use Rattle.std.proofs.Common.{sym, ◌∙◌, inl, inr, ⊎_elim, true≢false, arith}
use Rattle.std.proofs.lemmas.Bool.{false≢true}
use Rattle.std.proofs.Math.Option.{Option, none, some, none-ne-some, some-injective}
use Rattle.std.proofs.Math.Decide.{dec_le, ℕ_discrete}

-- two numbers are the same, or not
pub same_or_not : (a b : ℕ) → (a ≡ b) ⊎ (a ≡ b → ⊥)
same_or_not a b = elim (ℕ_discrete a b) [ yes p ↦ inl p | no p ↦ inr p ]

-- one is at most the other, or above it
pub le_or_lt : (a b : ℕ) → (a ≤ b) ⊎ (b < a)
le_or_lt a b = elim (dec_le a b) [ yes p ↦ inl p | no p ↦ inr (omega arith) ]

-- one is below the other, or not
pub lt_or_le : (a b : ℕ) → (a < b) ⊎ (b ≤ a)
lt_or_le a b = elim (dec_le b a) [ yes p ↦ inr p | no p ↦ inl (omega arith) ]

-- numbers decide: what is not below is at most, what is not at most is below
pub at_most : {a b : ℕ} → (a < b → ⊥) → b ≤ a
at_most h = omega arith

pub less : {a b : ℕ} → (b ≤ a → ⊥) → a < b
less h = omega arith

-- numbers that are not different are equal
pub equal : {a b : ℕ} → ((a ≡ b → ⊥) → ⊥) → a ≡ b
equal {a} {b} h = ⊎_elim (λ e. e) (λ n. absurd (h n)) (same_or_not a b)

-- r tells whether P holds
pub record Tells (r : Bool) (P : Type 0) : Type 0 where
  pub yes : r ≡ true → P
  pub none : r ≡ false → P → ⊥

-- what holds is told by a test that passes, what does not by one that fails
pub tells_yes : {P : Type 0} → P → Tells true P
tells_yes p = record { yes = λ e. p; none = λ e. absurd (true≢false e) }

pub tells_no : {P : Type 0} → (P → ⊥) → Tells false P
tells_no n = record { yes = λ e. absurd (false≢true e); none = λ e. n }

-- two tests that tell the same are the same
pub tells_one : {P : Type 0} (r s : Bool) → Tells r P → Tells s P → r ≡ s
tells_one true true a b = refl
tells_one true false a b = absurd (b.none refl (a.yes refl))
tells_one false true a b = absurd (a.none refl (b.yes refl))
tells_one false false a b = refl

-- none is not some, and what is there is one thing
pub none_some : {A : Type 0} {r : A} → ◌≡◌ {A = Option A} none (some r) → ⊥
none_some {A} {r} e = none-ne-some r e

pub some_one : {A : Type 0} {r s : A} → ◌≡◌ {A = Option A} (some r) (some s) → r ≡ s
some_one {A} {r} {s} e = some-injective r s e

-- an equation leaves one value
pub equation_one : {A : Type 0} {x a b : A} → a ≡ x → b ≡ x → a ≡ b
equation_one p q = p ∙ sym q
