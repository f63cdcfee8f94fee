-- A visit places its operation or finds that it waits, and the loop of `round` visits each: in one direction or the other, all have their turn.
use mathlib.Core.Path.{◌≡◌, refl, sym, subst}
use mathlib.Core.Bool.{Bool, true, false}
use mathlib.Core.List.{List}
use Prim.Native.Nat.{ℕ, ◌+◌, ◌-◌, ◌≤◌, ◌<◌}
use native.Mathlib.Omega.{arith}
use borrow.Author.Count.{below_more}
use lib.ListN.{set}
use Rattle.maths.specs.Rows.{at}
use Rattle.maths.specs.Count.{marks}
use Rattle.model.specs.Order.{Order, size, Closed}
use Rattle.model.specs.Placing.{StartsAt, Waits}
use Rattle.theory.specs.order.PlacingSteps.{Part, part_more, more_set}
use Rattle.earliest.specs.Widths.{heaviest}
use Rattle.earliest.specs.Round.{Visit, Round}

module _ {o : Order} {s : List ℕ} {i : ℕ} where
  -- i is placed already, or waits
  pub visit_none : Part heaviest o s → (at s i ≡ 0 → Waits o s i) → Visit o i s s 0
  visit_none h w = record { part = h; counts = omega arith; same = λ z. refl; stuck = λ z. w }

  -- i is placed
  pub visit_set : {b : ℕ} → Closed heaviest o → Part heaviest o s → i < size o → at s i ≡ 0 → StartsAt o s i b → Visit o i s (set s i b) 1
  visit_set c h l z d =
      let m = more_set c h l z d in
      record { part = part_more c h m; counts = m.counts; same = λ y. absurd (omega arith); stuck = λ y. absurd (omega arith) }

-- which of n comes k-th: counted from the first one up, or from the last one down
abbrev pub kth_of : Bool → ℕ → ℕ → ℕ
kth_of true n k = k
kth_of false n k = n - 1 - k

-- counted from either end, the operation that comes k-th has k for its own turn
kth_back : (up : Bool) (n k : ℕ) → k < n → kth_of up n (kth_of up n k) ≡ k
kth_back true n k l = refl
kth_back false n k l = omega arith

-- and it is one of the n
pub kth_inside : (up : Bool) (n k : ℕ) → k < n → kth_of up n k < n
kth_inside true n k l = l
kth_inside false n k l = omega arith

-- the loop of `round`, before the k-th visit: where none is placed, each that was visited and is left waits
pub record Sweep (o : Order) (up : Bool) (s₀ s : List ℕ) (r k : ℕ) : Type 0 where
  pub within : k ≤ size o
  pub part : Part heaviest o s
  pub counts : marks s (size o) ≡ marks s₀ (size o) + r
  pub stuck : r ≡ 0 → (j : ℕ) → j < k → at s (kth_of up (size o) j) ≡ 0 → Waits o s (kth_of up (size o) j)

module _ {o : Order} {up : Bool} {s₀ : List ℕ} where
  -- none is visited
  pub sweep_none : Part heaviest o s₀ → Sweep o up s₀ s₀ 0 0
  sweep_none h = record { within = omega arith; part = h; counts = omega arith; stuck = λ z j l. absurd (omega arith) }

  -- one more is visited, in its turn
  pub sweep_step : {s s' : List ℕ} {r q k i : ℕ} → Sweep o up s₀ s r k → k < size o → i ≡ kth_of up (size o) k → Visit o i s s' q
      → Sweep o up s₀ s' (r + q) (k + 1)
  sweep_step {s} {s'} {r} {q} {k} h l turn v = record {
    within = omega arith;
    part = v.part;
    counts = omega (arith, h.counts, v.counts);
    stuck = λ z.
        let none : q ≡ 0 = omega arith in
        below_more (λ j. at s' (kth_of up (size o) j) ≡ 0 → Waits o s' (kth_of up (size o) j)) k
        (subst (λ (x : List ℕ). (j : ℕ) → j < k → at x (kth_of up (size o) j) ≡ 0 → Waits o x (kth_of up (size o) j)) (sym (v.same none))
        (h.stuck (omega arith)))
        (subst (λ (x : ℕ). at s' x ≡ 0 → Waits o s' x) turn (v.stuck none));
  }

  -- all are visited
  pub sweep_end : {s : List ℕ} {r k : ℕ} → Sweep o up s₀ s r k → size o ≤ k → Round o s₀ s r
  sweep_end {s} h l = record {
    part = h.part;
    counts = h.counts;
    stuck = λ z i m.
        subst (λ (x : ℕ). at s x ≡ 0 → Waits o s x) (kth_back up (size o) i m)
        (h.stuck z (kth_of up (size o) i) (omega (arith, kth_inside up (size o) i m)));
  }
