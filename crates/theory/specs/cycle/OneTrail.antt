-- An order has one trail at most, and it is no longer than the order.
use Rattle.std.specs.Prelude.{◌≡◌, refl, List, ℕ, zero, suc, ◌+◌, ◌-◌, ◌≤◌, ◌<◌, length}
use Rattle.std.proofs.Common.{sym, subst, ◌∙◌, ⊎_elim, add-one, arith}
use Rattle.maths.specs.Cases.{lt_or_le}
use Rattle.maths.specs.Rows.{at, same_row}
use Rattle.maths.specs.Lowest.{lowest_one}
use Rattle.model.specs.Order.{Order, size, Kept}
use Rattle.model.specs.Cycle.{Behind, Back, Trail}
use Rattle.theory.specs.cycle.PlacesMet.{apart_few}

-- the lowest kept predecessor, said of what is equal
pub back_same : {o : Order} {i j x y : ℕ} → i ≡ x → j ≡ y → Back o i j → Back o x y
back_same {o} {i} {j} {x} p q b = subst (Back o x) q (subst (λ (k : ℕ). Back o k j) p b)

-- an operation has one lowest kept predecessor at most
pub back_one : {o : Order} {i j a b : ℕ} → i ≡ j → Back o i a → Back o j b → a ≡ b
back_one {o} {i} {j} {a} {b} e x y = lowest_one (Behind o j) (size o) a b (back_same e refl x) y

-- what is met stands at one place
pub trail_place : {o : Order} {m : List ℕ} {t j k : ℕ} → Trail o m t → j < length m → k < length m → at m j ≡ at m k → j ≡ k
trail_place {o} {m} {t} {j} {k} a l r e =
    ⊎_elim
    (λ p. absurd (a.apart j k p r e))
    (λ p. ⊎_elim (λ q. absurd (a.apart k j q l (sym e))) (λ q. omega arith) (lt_or_le k j))
    (lt_or_le j k)

module _ {o : Order} {m n : List ℕ} {t u : ℕ} (a : Trail o m t) (b : Trail o n u) where
  -- as far as both go, two trails meet the same operations
  trails_agree : (k : ℕ) → k < length m → k < length n → at m k ≡ at n k
  trails_agree zero l r = lowest_one (Kept o) (size o) (at m 0) (at n 0) a.start b.start
  trails_agree (suc k) l r =
      let e = trails_agree k (omega arith) (omega arith) in
      subst (λ (j : ℕ). at m j ≡ at n j) (add-one k) (back_one e (a.back k (omega arith)) (b.back k (omega arith)))

  -- the longer of two trails would meet an operation again before its end
  trails_long : length m < length n → ⊥
  trails_long l =
      let last : ℕ = length m - 1 in
      let next : last + 1 ≡ length m = omega (arith, a.inside) in
      let e = trails_agree last (omega arith) (omega arith) in
      let there = subst (λ (k : ℕ). Back o (at n last) (at n k)) next (b.back last (omega arith)) in
      b.apart t (length m) a.inside l
      (sym (trails_agree t a.inside (omega (arith, a.inside))) ∙ back_one e a.again there)

-- two trails of one order meet the same operations, and the same one again
pub trail_one : {o : Order} {m n : List ℕ} {t u : ℕ} → Trail o m t → Trail o n u → (m ≡ n) × (t ≡ u)
trail_one {o} {m} {n} {t} {u} a b =
    let long : length m ≡ length n =
    ⊎_elim
    (λ l. absurd (trails_long a b l))
    (λ l. ⊎_elim (λ r. absurd (trails_long b a r)) (λ r. omega arith) (lt_or_le (length n) (length m)))
    (lt_or_le (length m) (length n)) in
    let met : m ≡ n = same_row m n long (λ k l. trails_agree a b k l (omega arith)) in
    let b' = subst (λ (r : List ℕ). Trail o r u) (sym met) b in
    (met, trail_place a a.inside b'.inside (back_one refl a.again b'.again))

-- every operation on a trail is one of the order's
pub trail_inside : {o : Order} {m : List ℕ} {t : ℕ} → Trail o m t → (k : ℕ) → k < length m → at m k < size o
trail_inside a zero l = a.start.inside
trail_inside {o} {m} a (suc k) l = subst (λ (j : ℕ). at m j < size o) (add-one k) (a.back k (omega arith)).inside

pub trail_few : {o : Order} {m : List ℕ} {t : ℕ} → Trail o m t → length m ≤ size o
trail_few {o} {m} a = apart_few m (size o) (trail_inside a) a.apart
