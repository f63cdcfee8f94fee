-- Tests that tell, put together: a comparison, both of two, every one below n.
use Rattle.std.specs.Prelude.{◌≡◌, refl, Bool, true, false, ◌⊎◌, ℕ, zero, suc, ◌≤◌, ◌<◌, leb, ltb, eqb}
use Rattle.std.proofs.Common.{sym, subst, inl, inr, ⊎_elim, eq-or-lt_of_le, le_of_suc-le-suc, not-suc-le-zero, arith, leb-true, leb-false, ltb-true, ltb-false, eqb-true}
use Rattle.std.proofs.lemmas.Bool.{eqb-false}
use Rattle.maths.specs.Cases.{Tells, tells_yes, tells_no}
use Rattle.maths.specs.Tests.{◌and◌, ◌or◌}
use Rattle.maths.specs.Count.{every}

-- what is told may be said in other words
pub tells_as : {P Q : Type 0} (r : Bool) → (P → Q) → (Q → P) → Tells r P → Tells r Q
tells_as r there back t = record { yes = λ e. there (t.yes e); none = λ e q. t.none e (back q) }

-- a comparison tells what it compares
pub tells_le : (a b : ℕ) → Tells (leb a b) (a ≤ b)
tells_le a b = record { yes = leb-true a b; none = λ e l. omega (arith, leb-false a b e) }

pub tells_lt : (a b : ℕ) → Tells (ltb a b) (a < b)
tells_lt a b = record { yes = ltb-true a b; none = λ e l. omega (arith, ltb-false a b e) }

pub tells_eq : (a b : ℕ) → Tells (eqb a b) (a ≡ b)
tells_eq a b = record { yes = eqb-true a b; none = eqb-false a b }

-- one of two tests tells that one of two facts holds
pub tells_either : {P Q : Type 0} (a b : Bool) → Tells a P → Tells b Q → Tells (a or b) (P ⊎ Q)
unfolding ◌or◌
tells_either true b p q = tells_yes (inl (p.yes refl))
tells_either false b p q = record {
  yes = λ e. inr (q.yes e);
  none = λ e h. ⊎_elim (p.none refl) (q.none e) h;
}

-- both tests tell that both facts hold
pub tells_both : {P Q : Type 0} (a b : Bool) → Tells a P → Tells b Q → Tells (a and b) (P × Q)
unfolding ◌and◌
tells_both true b p q = record { yes = λ e. (p.yes refl, q.yes e); none = λ e h. q.none e h.1 }
tells_both false b p q = tells_no (λ h. p.none refl h.0)

-- every test below n tells that every fact below n holds
pub tells_every : (p : ℕ → Bool) (P : ℕ → Type 0) (n : ℕ) → ((i : ℕ) → i < n → Tells (p i) (P i)) → Tells (every p n) ((i : ℕ) → i < n → P i)
unfolding every
tells_every p P zero each = tells_yes (λ i l. absurd (not-suc-le-zero l))
tells_every p P (suc n) each =
    tells_as _ (λ h. more h.0 h.1) (λ h. (λ i l. h i (omega arith), h n (omega arith)))
    (tells_both (every p n) (p n) (tells_every p P n (λ i l. each i (omega arith))) (each n (omega arith)))
  where
    more : ((i : ℕ) → i < n → P i) → P n → (i : ℕ) → i < suc n → P i
    more before last i l =
        ⊎_elim (λ e. subst P (sym e) last) (λ m. before i m) (eq-or-lt_of_le (le_of_suc-le-suc l))

-- what holds is told
pub tells_true : {P : Type 0} {r : Bool} → Tells r P → P → r ≡ true
tells_true {r = true} t p = refl
tells_true {r = false} t p = absurd (t.none refl p)

-- a test that cannot fail passes
pub on : (b : Bool) → (b ≡ false → ⊥) → b ≡ true
on true n = refl
on false n = absurd (n refl)
