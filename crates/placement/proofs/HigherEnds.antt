-- The loops over the edges: their higher ends are written one after another, and the edges of one higher end are passed along the links.
use mathlib.Core.Path.{◌≡◌, sym, ◌∙◌}
use mathlib.Core.List.{List}
use Prim.Native.Nat.{ℕ, ◌+◌, ◌≤◌, ◌<◌}
use native.Mathlib.Omega.{arith}
use lib.ListN.{length, take}
use Rattle.std.specs.Prelude.{Option, Some, None}
use Rattle.maths.specs.Rows.{at, tabulate_long, tabulate_at, same_row, take_at, take_long}
use Rattle.model.specs.Limits as limit
use Rattle.edge_links.specs.Linking.{link_of}
use Rattle.edge_links.specs.WalkedBack.{WalkedBack, walk_inside, walk_at, walk_ends}
use Rattle.placement.specs.Fit.{higher, highers, EdgeKept}

-- ---- the row of higher ends
-- there is one for each edge
pub highers_long : (from to : List ℕ) → length (highers from to) ≡ length from
highers_long from to = tabulate_long (higher from to) (length from)

-- the higher ends of the edges below e are written
pub record Written (from to : List ℕ) (e : ℕ) (ends : List ℕ) : Type 0 where
  pub within : e ≤ length from
  pub long : length ends ≡ limit.edges
  pub are : (k : ℕ) → k < e → at ends k ≡ higher from to k

module _ {from to : List ℕ} where
  -- all are: the part of the row from 0 to the number of edges is the row of higher ends
  pub written_end : {e : ℕ} {ends : List ℕ} → length from ≤ limit.edges → Written from to e ends → length from ≤ e
      → take (length from) ends ≡ highers from to
  written_end {e} {ends} few w l =
      let long = take_long (length from) ends (omega (arith, w.long)) in
      same_row (take (length from) ends) (highers from to) (omega (arith, highers_long from to))
      (λ k a.
      take_at (length from) ends k (omega arith)
      ∙ w.are k (omega arith)
      ∙ sym (tabulate_at (higher from to) (length from) k (omega arith)))

-- ---- the edges whose higher end is i
-- edge k is kept
pub record EdgeInTime (delays from to t : List ℕ) (k : ℕ) : Type 0 where
  pub kept : at t (at from k) + at delays (at from k) ≤ at t (at to k)

module _ {delays from to t : List ℕ} {i : ℕ} {edge : Option ℕ} (h : WalkedBack (highers from to) i (EdgeInTime delays from to t) (link_of edge)) where
  -- none is left to pass: every edge is kept, if its higher end is i
  pub all_kept : edge ≡ None → (e : ℕ) → e < length from → EdgeKept delays from to t i e
  all_kept none e l = record {
    kept = λ own.
        (walk_ends h none e (omega (arith, highers_long from to)) (tabulate_at (higher from to) (length from) e l ∙ own)).kept;
  }

  module _ {e : ℕ} (here : edge ≡ Some e) where
    -- the edge to pass is one of the graph's
    pub edge_inside : e < length from
    edge_inside = omega (arith, walk_inside h here, highers_long from to)

    -- and its higher end is i
    pub edge_own : higher from to e ≡ i
    edge_own = sym (tabulate_at (higher from to) (length from) e edge_inside) ∙ walk_at h here

    -- where it is not kept, i does not fit
    pub not_kept : (at t (at from e) + at delays (at from e) ≤ at t (at to e) → ⊥) → ((k : ℕ) → k < length from → EdgeKept delays from to t i k) → ⊥
    not_kept n all = n ((all e edge_inside).kept edge_own)
