-- An order has one cycle shown at most.
use Rattle.std.specs.Prelude.{◌≡◌, refl, List, ℕ, zero, suc, ◌+◌, ◌-◌, length}
use Rattle.std.proofs.Common.{ap, subst, arith}
use Rattle.maths.specs.Rows.{at, same_row}
use Rattle.maths.specs.Lowest.{Lowest, lowest_one}
use Rattle.model.specs.Order.{Order, size}
use Rattle.model.specs.Cycle.{Shown}
use Rattle.theory.specs.cycle.OneTrail.{trail_one, back_same, back_one}
use Rattle.theory.specs.cycle.ClosedRound.{Since, Round, shown_round}

-- ---- there is one at most
module _ {o : Order} {a b : List ℕ} (s : Round o a) (r : Round o b) where
  one_met : s.met ≡ r.met
  one_met = (trail_one s.trail r.trail).0

  one_twice : s.twice ≡ r.twice
  one_twice = (trail_one s.trail r.trail).1

  one_long : length a ≡ length b
  one_long = omega (arith, s.long, r.long, one_twice, ap length one_met)

  one_first : at a 0 ≡ at b 0
  one_first =
      lowest_one (Since r.met r.twice) (size o) (at a 0) (at b 0)
      (subst (λ (t : ℕ). Lowest (Since r.met t) (size o) (at a 0)) one_twice
      (subst (λ (m : List ℕ). Lowest (Since m s.twice) (size o) (at a 0)) one_met s.begins))
      r.begins

  -- from the last entry to the first, each is the lowest kept predecessor of the one after it
  one_entry : (d k : ℕ) → d + k + 1 ≡ length a → at a k ≡ at b k
  one_entry zero k e =
      let x : length a - 1 ≡ k = omega arith in
      let y : length b - 1 ≡ k = omega (arith, one_long) in
      back_one one_first (back_same refl (ap (at a) x) s.closes) (back_same refl (ap (at b) y) r.closes)
  one_entry (suc d) k e =
      back_one (one_entry d (k + 1) (omega arith)) (s.along k (omega arith)) (r.along k (omega (arith, one_long)))

-- an order has one cycle shown at most
pub shown_one : (o : Order) (a b : List ℕ) → Shown o a → Shown o b → a ≡ b
shown_one o a b shown other =
    let s = shown_round shown in
    let r = shown_round other in
    same_row a b (one_long s r) (λ k l. one_entry s r (length a - (k + 1)) k (omega arith))
