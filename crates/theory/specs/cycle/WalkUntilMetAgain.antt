-- Along a row until one comes again; along the lowest kept predecessors that is the trail.
use Rattle.std.specs.Prelude.{◌≡◌, refl, set, replicate}
use Rattle.std.proofs.Math.Path.{sym, ap, subst}
use Rattle.std.proofs.Common.{◌∙◌, add-one, below_more, length-set, get_or-set_same, get_or-set_other}
use mathlib.Core.List.{List}
use Prim.Native.Nat.{ℕ, zero, suc, ◌+◌, ◌-◌, ◌≤◌, ◌<◌}
use native.Mathlib.Omega.{arith}
use Rattle.std.proofs.Math.ListN.{length, take, length-replicate}
use Rattle.maths.specs.Rows.{at, take_at, take_long}
use Rattle.maths.specs.Count.{marks_lt}
use Rattle.maths.specs.Lowest.{Lowest}
use Rattle.model.specs.Limits as limit
use Rattle.model.specs.Order.{Order, size, Closed, Kept}
use Rattle.model.specs.Cycle.{Back, Trail}
use Rattle.theory.specs.cycle.PlacesMet.{Places, places_none, places_few, places_apart, places_step}
use Rattle.theory.specs.order.KeptOperations.{kept_inside}
use Rattle.theory.specs.cycle.OneTrail.{back_same}
use Rattle.theory.specs.cycle.LowestPredecessors.{Leads}

-- what is met after k steps along a row
unfoldable pub visited : List ℕ → ℕ → ℕ → ℕ
visited back first zero = first
visited back first (suc k) = at back (visited back first k)

visited_next : (back : List ℕ) (first k : ℕ) → visited back first (k + 1) ≡ at back (visited back first k)
unfolding visited
visited_next back first k = rw add-one

-- a walk that never leaves the limit
pub record NeverLeaves (back : List ℕ) (first : ℕ) : Type 0 where
  pub each : (k : ℕ) → visited back first k < limit.operations

-- the first `count` of what is met, all different, stand in `met`, and have their places; `here` comes next
pub record Walking (back : List ℕ) (first : ℕ) (met places : List ℕ) (count here : ℕ) : Type 0 where
  pub long : length met ≡ limit.operations
  pub placed : Places met places limit.operations count
  pub is : (k : ℕ) → k < count → at met k ≡ visited back first k
  pub comes : here ≡ visited back first count

-- what is met until one comes again: the one at `twice`
pub record MetAgain (back : List ℕ) (first : ℕ) (met : List ℕ) (count twice : ℕ) : Type 0 where
  pub long : length met ≡ limit.operations
  pub few : count ≤ limit.operations
  pub is : (k : ℕ) → k < count → at met k ≡ visited back first k
  pub apart : (j k : ℕ) → j < k → k < count → at met j ≡ at met k → ⊥
  pub inside : twice < count
  pub again : at met twice ≡ visited back first count

module _ {back : List ℕ} {first : ℕ} where
  pub walking_none : Walking back first (replicate limit.operations 0) (replicate limit.operations 0) 0 first
  unfolding visited
  walking_none = record {
    long = length-replicate {A = ℕ} limit.operations 0;
    placed = places_none;
    is = λ k l. absurd (omega arith);
    comes = refl;
  }

  module _ {met places : List ℕ} {count here : ℕ} (w : Walking back first met places count here) where
    pub walking_inside : NeverLeaves back first → here < limit.operations
    walking_inside s = omega (arith, w.comes, s.each count)

    -- while one comes that has no place, there is room
    pub walking_room : NeverLeaves back first → at places here ≡ 0 → count < limit.operations
    walking_room s z = omega (arith, marks_lt places limit.operations here (walking_inside s) z, w.placed.counts)

    pub walking_step : NeverLeaves back first → at places here ≡ 0
        → Walking back first (set met count here) (set places here (count + 1)) (count + 1) (at back here)
    walking_step s z =
        let met' : List ℕ = set met count here in
        let hit : at met' count ≡ here = get_or-set_same met count here 0 (omega (arith, w.long, walking_room s z)) in
        let miss : (k : ℕ) → k < count → at met' k ≡ at met k = λ k l. get_or-set_other met count k here 0 (λ e. omega arith) in
        record {
          long = length-set met count here ∙ w.long;
          placed = places_step w.placed miss hit (walking_inside s) z;
          is = below_more (λ (k : ℕ). at met' k ≡ visited back first k) count (λ k l. miss k l ∙ w.is k l) (hit ∙ w.comes);
          comes = ap (at back) w.comes ∙ sym (visited_next back first count);
        }

    pub walking_end : 1 ≤ at places here → MetAgain back first met count (at places here - 1)
    walking_end m = record {
      long = w.long;
      few = places_few w.placed;
      is = w.is;
      apart = places_apart w.placed;
      inside = omega (arith, w.placed.inside here m);
      again = w.placed.is here m ∙ w.comes;
    }

module _ {o : Order} {back : List ℕ} {first : ℕ} (leads : Leads o back) (start : Lowest (Kept o) (size o) first) where
  -- from a kept operation every step leads to a kept one
  visited_kept : (k : ℕ) → Kept o (visited back first k)
  unfolding visited
  visited_kept zero = start.holds
  visited_kept (suc k) = (leads.each (visited back first k) (visited_kept k)).holds.kept

  visited_back : (k : ℕ) → Back o (visited back first k) (visited back first (k + 1))
  visited_back k = back_same refl (sym (visited_next back first k)) (leads.each (visited back first k) (visited_kept k))

  pub leads_stays : {heaviest : ℕ} → Closed heaviest o → NeverLeaves back first
  leads_stays closed = record { each = λ k. omega (arith, kept_inside closed (visited_kept k), closed.few) }

  -- along the lowest kept predecessors, what is met until one comes again is the trail
  pub trail_made : {met : List ℕ} {count twice : ℕ} → MetAgain back first met count twice → Trail o (take count met) twice
  unfolding visited
  trail_made {met} {count} {twice} r =
      let m : List ℕ = take count met in
      let long : length m ≡ count = take_long count met (omega (arith, r.few, r.long)) in
      let is : (k : ℕ) → k < count → visited back first k ≡ at m k = λ k l. sym (take_at count met k l ∙ r.is k l) in
      let last : count - 1 ≡ length m - 1 = omega arith in
      let next : count - 1 + 1 ≡ count = omega (arith, r.inside) in
      record {
        start = subst (Lowest (Kept o) (size o)) (is 0 (omega (arith, r.inside))) start;
        back = λ k l. back_same (is k (omega arith)) (is (k + 1) (omega arith)) (visited_back k);
        apart = λ j k l x e. r.apart j k l (omega arith) (sym (take_at count met j (omega arith)) ∙ e ∙ take_at count met k (omega arith));
        inside = omega (arith, r.inside);
        again =
            back_same (is (count - 1) (omega (arith, r.inside)) ∙ ap (at m) last)
            (ap (visited back first) next ∙ sym r.again ∙ sym (take_at count met twice r.inside))
            (visited_back (count - 1));
      }
