-- The lowest number below n with a property: there is one at most, and where the property is decided it can be found.
use Rattle.std.specs.Prelude.{◌≡◌, ◌⊎◌, ℕ, zero, suc, ◌<◌}
use Rattle.std.proofs.Common.{subst, inl, inr, ⊎_elim, eq-or-lt_of_le, le_of_suc-le-suc, not-suc-le-zero, arith}
use Rattle.maths.specs.Cases.{lt_or_le}

-- P holds of none below n
abbrev pub None : (ℕ → Type 0) → ℕ → Type 0
None P n = (k : ℕ) → k < n → P k → ⊥

pub record Lowest (P : ℕ → Type 0) (n i : ℕ) : Type 0 where
  pub inside : i < n
  pub holds : P i
  pub none_before : None P i

pub lowest_one : (P : ℕ → Type 0) (n i j : ℕ) → Lowest P n i → Lowest P n j → i ≡ j
lowest_one P n i j a b =
    ⊎_elim
    (λ h. absurd (b.none_before i h a.holds))
    (λ h. ⊎_elim (λ k. absurd (a.none_before j k b.holds)) (λ k. omega arith) (lt_or_le j i))
    (lt_or_le i j)

-- a number below n with P, the lowest of them
pub record Found (P : ℕ → Type 0) (n : ℕ) : Type 0 where
  pub place : ℕ
  pub lowest : Lowest P n place

module _ (P : ℕ → Type 0) where
  none_suc : (n : ℕ) → None P n → (P n → ⊥) → None P (suc n)
  none_suc n h x k l p = ⊎_elim (λ e. x (subst P e p)) (λ m. h k m p) (eq-or-lt_of_le (le_of_suc-le-suc l))

  pub find : (n : ℕ) → ((k : ℕ) → k < n → P k ⊎ (P k → ⊥)) → Found P n ⊎ None P n
  find zero dec = inr (λ k l. absurd (not-suc-le-zero l))
  find (suc n) dec =
      ⊎_elim
      (λ h.
      inl
      (record {
        place = h.place;
        lowest = record {
          inside = omega (arith, h.lowest.inside);
          holds = h.lowest.holds;
          none_before = h.lowest.none_before;
        };
      }))
      (λ h.
      ⊎_elim
      (λ p. inl (record { place = n; lowest = record { inside = omega arith; holds = p; none_before = h } }))
      (λ x. inr (none_suc n h x))
      (dec n (omega arith)))
      (find n (λ k l. dec k (omega arith)))
