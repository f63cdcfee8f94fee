-- The walk of `first_step`: from the last edge that enters i back to the first. The sources passed are placed and over by the step, and none allows an earlier one.
use mathlib.Core.Path.{◌≡◌, ap}
use mathlib.Core.List.{List}
use Prim.Native.Nat.{ℕ, ◌+◌, ◌≤◌, ◌<◌, max}
use native.Mathlib.Omega.{arith}
use Rattle.std.specs.Prelude.{Option, Some, None}
use Rattle.maths.specs.Rows.{at}
use Rattle.model.specs.Order.{Order, size, edge_count, weight, source, Closed}
use Rattle.model.specs.Placing.{MayStart, StartsAt, Waits}
use Rattle.edge_links.specs.Linking.{of_operation, of_edge, Linked, edge_of, link_of}
use Rattle.edge_links.specs.WalkedBack.{WalkedBack, walked_back_as, walk_begins, walk_inside, walk_at, walk_falls, walk_step, walk_ends}
use Rattle.earliest.specs.Widths.{heaviest}

-- edge k leaves an operation that is placed, and over by the step
pub record OverBy (o : Order) (s : List ℕ) (step k : ℕ) : Type 0 where
  pub placed : 1 ≤ at s (source o k)
  pub over : at s (source o k) + weight o (source o k) ≤ step

-- what the walk knows before an edge
pub record WalkingBack (o : Order) (s : List ℕ) (i step : ℕ) (edge : Option ℕ) : Type 0 where
  pub positive : 1 ≤ step
  pub least : (b : ℕ) → MayStart o s i b → step ≤ b
  pub passed : WalkedBack o.to i (OverBy o s step) (link_of edge)

module _ {o : Order} {s links : List ℕ} {i : ℕ} (c : Closed heaviest o) (all : Linked o.to links) where
  -- at the operation's last edge none is passed, and step 1 is free
  pub back_none : {edge : Option ℕ} → i < size o → edge ≡ edge_of (of_operation links i) → WalkingBack o s i 1 edge
  back_none l first = record {
    positive = omega arith;
    least = λ b h. h.from_one;
    passed = walk_begins all i (omega (arith, c.few)) first;
  }

  module _ {step : ℕ} {edge : Option ℕ} (h : WalkingBack o s i step edge) where
    -- no edge is left to see
    pub back_end : edge ≡ None → StartsAt o s i step
    back_end none =
        let all_over = walk_ends h.passed none in
        record {
          ready = λ k l q. (all_over k (omega (arith, c.even)) q).placed;
          may = record { from_one = h.positive; after = λ k l q. (all_over k (omega (arith, c.even)) q).over };
          least = h.least;
        }

    module _ {e : ℕ} (here : edge ≡ Some e) where
      -- the edge to see is one of the order's
      pub back_inside : e < edge_count o
      back_inside = omega (arith, walk_inside h.passed here, c.even)

      -- its source is not placed: i waits for it
      pub back_waits : at s (source o e) ≡ 0 → Waits o s i
      back_waits z = record { edge = e; inside = back_inside; enters = walk_at h.passed here; unplaced = z }

      module _ {next : Option ℕ} (before : next ≡ edge_of (of_edge links e)) where
        -- the walk goes back
        pub back_falls : link_of next < link_of edge
        back_falls = walk_falls h.passed here all before

        -- its source is placed: the step is raised to where it is over
        pub back_step : {j v : ℕ} → j ≡ source o e → (at s j ≡ 0 → ⊥) → v ≡ max (at s j + weight o j) step → WalkingBack o s i v next
        back_step leaves placed raised =
            let start = ap (at s) leaves in
            let weighs = ap (weight o) leaves in
            record {
              positive = omega (arith, h.positive);
              least = λ b x. omega (arith, h.least b x, x.after e back_inside (walk_at h.passed here));
              passed = walk_step (walked_back_as (λ k d. record { placed = d.placed; over = omega (arith, d.over) }) h.passed) here all before
                  (record { placed = omega arith; over = omega arith });
            }
