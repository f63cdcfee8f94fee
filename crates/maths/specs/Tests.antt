-- Tests joined: both, one of two, the opposite. They stay shut, so that their arguments are inferred; these laws open them.
use Rattle.std.specs.Prelude.{◌≡◌, refl, ◌⊎◌, Bool, true, false}
use Rattle.std.proofs.Common.{sym, ◌∙◌, inl, inr, true≢false}
use Rattle.std.proofs.lemmas.Bool.{false≢true}

-- both tests
unfoldable pub ◌and◌ : Bool → Bool → Bool
true and b = b
false and b = false

infixr 6 ◌and◌
-- one of two tests, or both
unfoldable pub ◌or◌ : Bool → Bool → Bool
true or b = true
false or b = b

infixr 5 ◌or◌
-- the opposite
unfoldable pub neg : Bool → Bool
neg true = false
neg false = true

pub two : (b : Bool) → (b ≡ true) ⊎ (b ≡ false)
two true = inl refl
two false = inr refl

pub clash : {b : Bool} → b ≡ true → b ≡ false → ⊥
clash p q = true≢false (sym p ∙ q)

-- a test that cannot pass fails
pub off : (b : Bool) → (b ≡ true → ⊥) → b ≡ false
off true n = absurd (n refl)
off false n = refl

-- tests that pass together are one
pub same_test : (a b : Bool) → (a ≡ true → b ≡ true) → (b ≡ true → a ≡ true) → a ≡ b
same_test true true f g = refl
same_test true false f g = absurd (false≢true (f refl))
same_test false true f g = absurd (false≢true (g refl))
same_test false false f g = refl

pub and_true : {a b : Bool} → a ≡ true → b ≡ true → a and b ≡ true
unfolding ◌and◌
and_true p q = rw (p, q)

pub and_left : (a b : Bool) → a and b ≡ true → a ≡ true
unfolding ◌and◌
and_left true b e = refl
and_left false b e = e

pub and_right : (a b : Bool) → a and b ≡ true → b ≡ true
unfolding ◌and◌
and_right true b e = e
and_right false b e = absurd (false≢true e)

pub and_left_false : {a : Bool} (b : Bool) → a ≡ false → a and b ≡ false
unfolding ◌and◌
and_left_false b p = rw p

pub and_right_false : (a : Bool) {b : Bool} → b ≡ false → a and b ≡ false
unfolding ◌and◌
and_right_false true p = p
and_right_false false p = refl

-- a test that passes leaves the other to decide
pub and_on : (a : Bool) {b : Bool} → b ≡ true → a and b ≡ a
unfolding ◌and◌
and_on true p = p
and_on false p = refl

pub or_left : {a : Bool} (b : Bool) → a ≡ true → a or b ≡ true
unfolding ◌or◌
or_left b p = rw p

pub or_right : (a : Bool) {b : Bool} → b ≡ true → a or b ≡ true
unfolding ◌or◌
or_right true p = refl
or_right false p = p

pub or_cases : (a b : Bool) → a or b ≡ true → (a ≡ true) ⊎ (b ≡ true)
unfolding ◌or◌
or_cases true b e = inl refl
or_cases false b e = inr e

pub neg_true : {a : Bool} → a ≡ false → neg a ≡ true
unfolding neg
neg_true p = rw p

pub neg_false : (a : Bool) → neg a ≡ true → a ≡ false
unfolding neg
neg_false true e = absurd (false≢true e)
neg_false false e = refl
