-- Where each entry of the cycle was met: the cycle is what was met since, turned round, and begun at its lowest number.
use Rattle.std.specs.Prelude.{◌≡◌, refl, List, ℕ, ◌+◌, ◌-◌, ◌≤◌, ◌<◌, length}
use Rattle.std.proofs.Common.{sym, ap, ◌∙◌, ⊎_elim, arith}
use Rattle.maths.specs.Cases.{lt_or_le}
use Rattle.maths.specs.Rows.{at}
use Rattle.model.specs.Order.{Order}
use Rattle.model.specs.Cycle.{Back, Trail}
use Rattle.theory.specs.cycle.OneTrail.{back_same, back_one}

-- `place` is reached from the place of the lowest number in so many steps, and after the last place comes `twice`
pub data Turned (twice count lowest steps place : ℕ) : Type 0 where
  on : lowest + steps < count → place ≡ lowest + steps → Turned twice count lowest steps place
  around : count ≤ lowest + steps → place + count ≡ lowest + steps + twice → Turned twice count lowest steps place

-- v is entry k of the cycle: k steps before the whole round, since the way back is against the edges
pub record Turn (met : List ℕ) (twice count lowest k v : ℕ) : Type 0 where
  pub steps : ℕ
  pub round : steps + k + twice ≡ count
  pub place : ℕ
  pub turned : Turned twice count lowest steps place
  pub is : at met place ≡ v

-- the place after `place`
record Next (twice count place next : ℕ) : Type 0 where
  beside : place + 1 < count → next ≡ place + 1
  again : count ≤ place + 1 → next ≡ twice

module _ {twice count lowest : ℕ} (late : twice ≤ lowest) (inside : lowest < count) where
  pub turned_some : (steps : ℕ) → (place : ℕ) × Turned twice count lowest steps place
  turned_some steps =
      ⊎_elim
      (λ l. (lowest + steps, on l refl))
      (λ l. (lowest + steps + twice - count, around l (omega arith)))
      (lt_or_le (lowest + steps) count)

  pub turned_inside : {steps place : ℕ} → steps + twice ≤ count → Turned twice count lowest steps place → place < count
  turned_inside l (on a b) = omega arith
  turned_inside l (around a b) = omega arith

  -- the whole round leads back to the lowest
  pub turned_round : {steps place : ℕ} → steps + twice ≡ count → Turned twice count lowest steps place → place ≡ lowest
  turned_round e (on a b) = omega arith
  turned_round e (around a b) = omega arith

  -- so many steps lead to one place
  turned_one : {steps place other : ℕ} → Turned twice count lowest steps place → Turned twice count lowest steps other → place ≡ other
  turned_one (on a b) (on c d) = omega arith
  turned_one (on a b) (around c d) = omega arith
  turned_one (around a b) (on c d) = omega arith
  turned_one (around a b) (around c d) = omega arith

  -- and to each place since `twice` leads a number of steps, less than the whole round by k
  pub turn_to : (met : List ℕ) (place : ℕ) → twice ≤ place → place < count → (k : ℕ) × ((k + twice < count) × Turn met twice count lowest k (at met place))
  turn_to met place a b =
      ⊎_elim
      (λ l. (
        lowest + count - twice - place,
        (
          omega arith,
          record { steps = place - lowest; round = omega arith; place = place; turned = on (omega arith) (omega arith); is = refl },
        ),
      ))
      (λ l. (
        lowest - place,
        (
          omega arith,
          record {
            steps = count - twice - (lowest - place);
            round = omega arith;
            place = place;
            turned = around (omega arith) (omega arith);
            is = refl;
          },
        ),
      ))
      (lt_or_le lowest place)

  -- an entry was met at `twice` or later
  turned_late : {steps place : ℕ} → Turned twice count lowest steps place → twice ≤ place
  turned_late (on a b) = omega arith
  turned_late (around a b) = omega arith

  pub turn_late : {met : List ℕ} {k v : ℕ} (x : Turn met twice count lowest k v) → twice ≤ x.place
  turn_late x = turned_late x.turned

  -- what is entry k is one number
  pub turn_one : {met : List ℕ} {k v w : ℕ} → Turn met twice count lowest k v → Turn met twice count lowest k w → v ≡ w
  turn_one {met} x y =
      let more : x.steps ≡ y.steps = omega (arith, x.round, y.round) in
      sym x.is ∙ ap (at met) (turned_one (rw more at x.turned) y.turned) ∙ y.is

  turned_next : {steps place next : ℕ} → steps + 1 + twice ≤ count → Turned twice count lowest steps place → Turned twice count lowest (steps + 1) next
      → Next twice count place next
  turned_next l (on a b) (on c d) = record { beside = λ x. omega arith; again = λ x. omega arith }
  turned_next l (on a b) (around c d) = record { beside = λ x. omega arith; again = λ x. omega arith }
  turned_next l (around a b) (on c d) = absurd (omega arith)
  turned_next l (around a b) (around c d) = record { beside = λ x. omega arith; again = λ x. omega arith }

  -- up to a whole round every step leads to another place
  turned_apart : {j k place : ℕ} → j < k → k + twice < count + j → Turned twice count lowest j place → Turned twice count lowest k place → ⊥
  turned_apart l r (on a b) (on c d) = omega arith
  turned_apart l r (on a b) (around c d) = omega arith
  turned_apart l r (around a b) (on c d) = omega arith
  turned_apart l r (around a b) (around c d) = omega arith

module _ {o : Order} {m : List ℕ} {t q : ℕ} (a : Trail o m t) (late : t ≤ q) (inside : q < length m) where
  -- on a trail the lowest kept predecessor stands at the next place
  trail_back : {place next : ℕ} → place < length m → Next t (length m) place next → Back o (at m place) (at m next)
  trail_back {place} {next} l n =
      ⊎_elim
      (λ r. back_same refl (ap (at m) (sym (n.beside r))) (a.back place r))
      (λ r. let e : length m - 1 ≡ place = omega arith in back_same (ap (at m) e) (ap (at m) (sym (n.again r))) a.again)
      (lt_or_le (place + 1) (length m))

  -- entry k is the lowest kept predecessor of entry k + 1
  pub turn_back : {k x v : ℕ} → Turn m t (length m) q (k + 1) x → Turn m t (length m) q k v → Back o x v
  turn_back {k} later here =
      let more : here.steps ≡ later.steps + 1 = omega (arith, later.round, here.round) in
      let next = turned_next late inside (omega (arith, later.round)) later.turned (rw more at here.turned) in
      back_same later.is here.is (trail_back (turned_inside late inside (omega (arith, later.round)) later.turned) next)

  -- and the lowest kept predecessor of entry k + 1 is entry k
  pub turn_before : {k x v : ℕ} → Turn m t (length m) q (k + 1) x → Back o x v → Turn m t (length m) q k v
  turn_before {k} {x} {v} later b =
      let (place, turned) = turned_some late inside (later.steps + 1) in
      let made : (w : ℕ) → at m place ≡ w → Turn m t (length m) q k w = λ w e. record {
        steps = later.steps + 1;
        round = omega (arith, later.round);
        place = place;
        turned = turned;
        is = e;
      } in
      made v (back_one refl (turn_back later (made (at m place) refl)) b)

  -- after the last entry comes the first again
  pub turn_again : (k : ℕ) → k + t ≡ length m → Turn m t (length m) q k (at m q)
  turn_again k e = record { steps = 0; round = omega arith; place = q; turned = on (omega arith) (omega arith); is = refl }

  pub turn_inside : {k v : ℕ} (x : Turn m t (length m) q k v) → x.place < length m
  turn_inside x = turned_inside late inside (omega (arith, x.round)) x.turned

  -- two entries were met at two places
  pub turn_apart : {j k v w : ℕ} (x : Turn m t (length m) q j v) (y : Turn m t (length m) q k w) → j < k → k + t < length m → x.place ≡ y.place → ⊥
  turn_apart x y l r e =
      turned_apart late inside (omega (arith, x.round, y.round)) (omega (arith, x.round, y.round)) y.turned (rw e at x.turned)
