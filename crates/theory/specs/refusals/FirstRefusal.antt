-- How `First` is put together and taken apart, and what each kind of check says.
use Rattle.std.specs.Prelude.{refl, List, [], ◌∷◌, ◌++◌, ℕ, zero, suc, ◌≤◌}
use Rattle.std.proofs.Common.{inl, inr, ⊎_elim, arith, below_none, below_more}
use Rattle.std.proofs.Math.Option.{Option, none, some}
use Rattle.maths.specs.Lowest.{None, Lowest}
use Rattle.model.specs.Refusals.{Check, Silent, First, Flat, AtLowest}

-- ---- put together
-- a check that says something decides
pub first_says : (R : Check) (rest : List Check) (n p : ℕ) → R.says n p → First (R ∷ rest) (some (n, p))
unfolding First
first_says R rest n p h = inl h

-- a check that says nothing leaves it to the rest
pub first_silent : (R : Check) (rest : List Check) (x : Option (ℕ × ℕ)) → Silent R.says → First rest x → First (R ∷ rest) x
unfolding First
first_silent R rest none s h = (s, h)
first_silent R rest (some r) s h = inr (s, h)

-- no check, no refusal
pub first_end : First [] none
unfolding First
first_end = tt

-- what the front says is said, whatever follows
pub first_hit : (front back : List Check) (r : ℕ × ℕ) → First front (some r) → First (front ++ back) (some r)
unfolding First
first_hit [] back r h = absurd h
first_hit (R ∷ front) back r h = ⊎_elim (λ k. inl k) (λ k. inr (k.0, first_hit front back r k.1)) h

-- where the front says nothing, the back decides
pub first_pass : (front back : List Check) (x : Option (ℕ × ℕ)) → First front none → First back x → First (front ++ back) x
unfolding First
first_pass [] back x a b = b
first_pass (R ∷ front) back x a b = first_silent R (front ++ back) x a.0 (first_pass front back x a.1 b)

-- ---- taken apart
-- both say nothing
pub first_none_append : (front back : List Check) → First (front ++ back) none → First front none × First back none
unfolding First
first_none_append [] back h = (tt, h)
first_none_append (R ∷ front) back h = let k = first_none_append front back h.1 in ((h.0, k.0), k.1)

-- a check may be put in another's place that says the same
pub first_head : (R S : Check) (rest : List Check) (x : Option (ℕ × ℕ)) → ((n p : ℕ) → R.says n p → S.says n p) → ((n p : ℕ) → S.says n p → R.says n p)
    → First (R ∷ rest) x → First (S ∷ rest) x
unfolding First
first_head R S rest none there back h = (λ n p s. h.0 n p (back n p s), h.1)
first_head R S rest (some r) there back h =
    ⊎_elim (λ k. inl (there r.0 r.1 k)) (λ k. inr (λ n p s. k.0 n p (back n p s), k.1)) h

-- the rest may be put in another rest's place that says the same
pub first_rest : (R : Check) (rest other : List Check) (x : Option (ℕ × ℕ)) → (First rest x → First other x) → First (R ∷ rest) x → First (R ∷ other) x
unfolding First
first_rest R rest other none f h = (h.0, f h.1)
first_rest R rest other (some r) f h = ⊎_elim (λ k. inl k) (λ k. inr (k.0, f k.1)) h

-- ---- each kind of check
-- silent where P does not hold, and only there; it says its number and place 0 where P holds
pub flat_silent : (number : ℕ) (P : Type 0) → (P → ⊥) → Silent (Flat number P)
flat_silent number P not n p h = not h.why

pub flat_says : (number : ℕ) (P : Type 0) → P → Flat number P number 0
flat_says number P why = record { is = refl; nowhere = refl; why = why }

pub flat_not : (number : ℕ) (P : Type 0) → Silent (Flat number P) → P → ⊥
flat_not number P s why = s number 0 (flat_says number P why)

-- silent where no place has P, and only there; it says its number and the lowest place with P
pub at_lowest_silent : (number among : ℕ) (P : ℕ → Type 0) → None P among → Silent (AtLowest number among P)
at_lowest_silent number among P empty n p h = empty p h.lowest.inside h.lowest.holds

pub at_lowest_says : (number among : ℕ) (P : ℕ → Type 0) (place : ℕ) → Lowest P among place → AtLowest number among P number place
at_lowest_says number among P place low = record { is = refl; lowest = low }

-- where no number is the lowest with P, none has P
module _ (P : ℕ → Type 0) (n : ℕ) (no_lowest : (i : ℕ) → Lowest P n i → ⊥) where
  none_below : (m : ℕ) → m ≤ n → None P m
  none_below zero l = below_none (λ k. P k → ⊥)
  none_below (suc m) l = λ k b.
      let before = none_below m (omega arith) in
      below_more (λ k. P k → ⊥) m before
      (λ p. no_lowest m (record { inside = omega arith; holds = p; none_before = before })) k
      (omega arith)

  pub no_lowest_none : None P n
  no_lowest_none = none_below n (omega arith)

pub at_lowest_none : (number among : ℕ) (P : ℕ → Type 0) → Silent (AtLowest number among P) → None P among
at_lowest_none number among P s = no_lowest_none P among (λ i low. s number i (at_lowest_says number among P i low))
