-- Of the numbers below n with a property, one at which f is greatest: where the property is decided, it can be found.
use Rattle.std.proofs.Common.{ap, subst, inl, inr, ⊎_elim, eq-or-lt_of_le, le_of_suc-le-suc, not-suc-le-zero, arith}
use Rattle.std.specs.Prelude.{◌⊎◌, ℕ, zero, suc, ◌≤◌, ◌<◌}
use Rattle.maths.specs.Cases.{le_or_lt}
use Rattle.maths.specs.Lowest.{None}

-- a number below n with P, and no other below n with P has a greater f
pub record Greatest (P : ℕ → Type 0) (f : ℕ → ℕ) (n : ℕ) : Type 0 where
  pub place : ℕ
  pub inside : place < n
  pub holds : P place
  pub most : (j : ℕ) → j < n → P j → f j ≤ f place

module _ (P : ℕ → Type 0) (f : ℕ → ℕ) where
  -- n itself, where all below n are no greater
  last : (n : ℕ) → P n → ((j : ℕ) → j < n → P j → f j ≤ f n) → Greatest P f (suc n)
  last n p h = record {
    place = n;
    inside = omega arith;
    holds = p;
    most = λ j l q. ⊎_elim (λ e. omega (arith, ap f e)) (λ m. h j m q) (eq-or-lt_of_le (le_of_suc-le-suc l));
  }

  -- what is greatest below n stays so where n is no greater
  stays : (n : ℕ) (g : Greatest P f n) → (P n → f n ≤ f g.place) → Greatest P f (suc n)
  stays n g h = record {
    place = g.place;
    inside = omega (arith, g.inside);
    holds = g.holds;
    most = λ j l q.
        ⊎_elim (λ e. omega (arith, ap f e, h (subst P e q))) (λ m. g.most j m q) (eq-or-lt_of_le (le_of_suc-le-suc l));
  }

  pub greatest : (n : ℕ) → ((k : ℕ) → k < n → P k ⊎ (P k → ⊥)) → Greatest P f n ⊎ None P n
  greatest zero dec = inr (λ k l. absurd (not-suc-le-zero l))
  greatest (suc n) dec =
      ⊎_elim
      (λ g.
      inl
      (⊎_elim
      (λ p.
      ⊎_elim
      (λ h. stays n g (λ q. h))
      (λ h. last n p (λ j l q. omega (arith, g.most j l q)))
      (le_or_lt (f n) (f g.place)))
      (λ x. stays n g (λ p. absurd (x p)))
      (dec n (omega arith))))
      (λ none.
      ⊎_elim
      (λ p. inl (last n p (λ j l q. absurd (none j l q))))
      (λ x.
      inr
      (λ k l p. ⊎_elim (λ e. x (subst P e p)) (λ m. none k m p) (eq-or-lt_of_le (le_of_suc-le-suc l))))
      (dec n (omega arith)))
      (greatest n (λ k l. dec k (omega arith)))
