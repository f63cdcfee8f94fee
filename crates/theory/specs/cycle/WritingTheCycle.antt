-- From the trail to the cycle written: the place of its lowest number, then entry after entry.
use Rattle.std.specs.Prelude.{◌≡◌, refl, List, reverse, ℕ, ◌+◌, ◌-◌, ◌≤◌, ◌<◌, length, set, take, drop}
use Rattle.std.proofs.Common.{sym, ap, subst, ◌∙◌, ⊎_elim, arith, below_more, length-set, get_or-set_same, get_or-set_other}
use Rattle.maths.specs.Cases.{lt_or_le}
use Rattle.maths.specs.Rows.{at, same_row, take_at, take_long}
use Rattle.maths.specs.Turning.{beginning_at}
use Rattle.model.specs.Order.{Order}
use Rattle.model.specs.Cycle.{Trail, Shown}
use Rattle.theory.specs.cycle.TurnedRound.{Turned, Turn, turned_inside, turned_round, turn_one, turn_late, turn_inside}
use Rattle.theory.specs.cycle.ClosedRound.{turned_long, turned_turn}

-- of the places from `twice` to before `count`, `best` has the least number
pub record LeastNumber (met : List ℕ) (twice count best : ℕ) : Type 0 where
  pub late : twice ≤ best
  pub inside : best < count
  pub least : (k : ℕ) → k < count → twice ≤ k → at met best ≤ at met k

-- of two places, the one with the lesser number
pub record Lesser (met : List ℕ) (old new r : ℕ) : Type 0 where
  pub take_new : at met new < at met old → r ≡ new
  pub keep_old : at met old ≤ at met new → r ≡ old

module _ {met : List ℕ} {twice : ℕ} where
  pub least_none : LeastNumber met twice (twice + 1) twice
  least_none = record {
    late = omega arith;
    inside = omega arith;
    least = λ k l r. let e : twice ≡ k = omega arith in omega (arith, ap (at met) e);
  }

  least_more : {count best new : ℕ} → LeastNumber met twice count best → twice ≤ new → new < count + 1 → at met new ≤ at met best → at met new ≤ at met count
      → LeastNumber met twice (count + 1) new
  least_more {count} {best} {new} h late inside old here = record {
    late = late;
    inside = inside;
    least = below_more (λ (k : ℕ). twice ≤ k → at met new ≤ at met k) count (λ k l t. omega (arith, h.least k l t)) (λ t. here);
  }

  pub least_step : {count best r : ℕ} → LeastNumber met twice count best → Lesser met best count r → LeastNumber met twice (count + 1) r
  least_step {count} {best} {r} h c =
      ⊎_elim
      (λ l. rw (c.take_new l) (least_more h (omega (arith, h.late, h.inside)) (omega arith) (omega arith) (omega arith)))
      (λ l. rw (c.keep_old l) (least_more h h.late (omega (arith, h.inside)) (omega arith) l))
      (lt_or_le (at met count) (at met best))

-- the cycle's first k entries stand in front, and the rest is as it was
pub record Wrote (met : List ℕ) (twice count lowest : ℕ) (before after : List ℕ) (k : ℕ) : Type 0 where
  pub long : length after ≡ length before
  pub front : (j : ℕ) → j < k → Turn met twice count lowest j (at after j)
  pub rest : (j : ℕ) → k ≤ j → at after j ≡ at before j

module _ {met : List ℕ} {twice count lowest : ℕ} {before : List ℕ} where
  pub wrote_none : Wrote met twice count lowest before before 0
  wrote_none = record { long = refl; front = λ j l. absurd (omega arith); rest = λ j l. refl }

  pub wrote_step : {after : List ℕ} {k v : ℕ} → Wrote met twice count lowest before after k → k < length before → Turn met twice count lowest k v
      → Wrote met twice count lowest before (set after k v) (k + 1)
  wrote_step {after} {k} {v} w l t =
      let after' : List ℕ = set after k v in
      let miss : (j : ℕ) → (j ≡ k → ⊥) → at after j ≡ at after' j = λ j x. sym (get_or-set_other after k j v 0 x) in
      record {
        long = length-set after k v ∙ w.long;
        front =
            below_more (λ (j : ℕ). Turn met twice count lowest j (at after' j)) k
            (λ j m. subst (Turn met twice count lowest j) (miss j (λ e. omega arith)) (w.front j m))
            (subst (Turn met twice count lowest k) (sym (get_or-set_same after k v 0 (omega (arith, w.long)))) t);
        rest = λ j m. sym (miss j (λ e. omega arith)) ∙ w.rest j (omega arith);
      }

module _ {o : Order} {met : List ℕ} {twice count lowest : ℕ} {before after : List ℕ}
    (trail : Trail o (take count met) twice) (room : count ≤ length met) (least : LeastNumber met twice count lowest)
    (wrote : Wrote met twice count lowest before after (count - twice)) (wide : count - twice ≤ length before) where
  met_long : length (take count met) ≡ count
  met_long = take_long count met room

  cycle_long : length (take (count - twice) after) ≡ count - twice
  cycle_long = take_long (count - twice) after (omega (arith, wrote.long))

  lowest_inside : lowest < length (take count met)
  lowest_inside = omega (arith, met_long, least.inside)

  entry : (k : ℕ) → k < count - twice → Turn (take count met) twice (length (take count met)) lowest k (at (take (count - twice) after) k)
  entry k l =
      let t = wrote.front k l in
      let inside = turned_inside least.late least.inside (omega (arith, t.round)) t.turned in
      record {
        steps = t.steps;
        round = t.round ∙ sym met_long;
        place = t.place;
        turned = subst (λ (n : ℕ). Turned twice n lowest t.steps t.place) (sym met_long) t.turned;
        is = take_at count met t.place inside ∙ t.is ∙ sym (take_at (count - twice) after k l);
      }

  entry_first : at (take count met) lowest ≡ at (take (count - twice) after) 0
  entry_first =
      let t = entry 0 (omega (arith, least.late, least.inside)) in
      ap (at (take count met)) (sym (turned_round least.late lowest_inside (omega (arith, t.round)) t.turned)) ∙ t.is

  -- what is written in front is the cycle shown
  pub shown_made : Shown o (take (count - twice) after)
  shown_made =
      let n : ℕ = count - 1 - lowest in
      let ends : n + lowest + 1 ≡ length (take count met) = omega (arith, met_long, least.inside) in
      let long = turned_long (take count met) twice lowest n least.late ends in
      record {
        met = take count met;
        twice = twice;
        trail = trail;
        place = n;
        inside = omega (arith, cycle_long, least.late, least.inside);
        is =
            same_row (take (count - twice) after) (beginning_at n (reverse (drop twice (take count met))))
            (omega (arith, cycle_long, met_long))
            (λ k l.
            turn_one least.late lowest_inside (entry k (omega (arith, cycle_long)))
            (turned_turn (take count met) twice lowest n least.late ends k (omega (arith, cycle_long, met_long))));
        lowest = λ k l.
            let t = entry k (omega (arith, cycle_long)) in
            let inside : t.place < count = omega (arith, met_long, turn_inside trail least.late lowest_inside t) in
            omega (
              arith,
              entry_first,
              t.is,
              take_at count met t.place inside,
              take_at count met lowest least.inside,
              least.least t.place inside (turn_late least.late lowest_inside t),
            );
      }
