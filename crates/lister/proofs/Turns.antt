-- What one turn of the search shows. All that it knows of `Fits` is that it goes by the entries up to its operation.
use mathlib.Core.Path.{◌≡◌, refl, sym, subst, ◌∙◌}
use mathlib.Core.Bool.{Bool, true, false, not}
use Rattle.std.proofs.Math.Option.{Option, some}
use Rattle.std.proofs.Common.{Bor}
use Rattle.std.specs.Prelude as lent
use Rattle.std.specs.Prelude.{Some, None, is_some}
use Rattle.lister.specs.Lent.{asked_of}
use mathlib.Core.Logic.{⊎_elim}
use mathlib.Core.List.{List}
use Prim.Native.Nat.{ℕ, ◌+◌, ◌<◌, ◌≤◌}
use native.Mathlib.Omega.{arith}
use borrow.Author.Count.{below_more}
use lib.ListN.{length, set}
use lib.Seq.{get_or-set_same}
use Rattle.maths.specs.Cases.{lt_or_le, same_or_not, none_some}
use Rattle.maths.specs.Tests.{clash}
use Rattle.maths.specs.Rows.{at}
use Rattle.maths.specs.Counting.{count_same}
use Rattle.maths.specs.Words.{Same, Before}
use Rattle.maths.specs.WordLaws.{same_refl, same_sym, same_trans, same_down, same_more, same_set, before_here, same_not_before, before_at}
use Rattle.model.specs.Graph.{Graph, many}
use Rattle.model.specs.Use.{runs}
use Rattle.unit_use.specs.FirstInUse.{users, first_in_use}
use Rattle.placement.specs.Fit.{EdgeKept, UnitsEnough, Fits}
use Rattle.lister.specs.Search.{Job, Placed, Ready, Completes, Searched, Begins, StaysEqual}

-- ---- what stands up to i decides whether i fits
in_use_local : (busy types : List ℕ) (k l m : ℕ) {a b : List ℕ} → Same m a b → first_in_use busy types a k l m ≡ first_in_use busy types b k l m
unfolding runs
in_use_local busy types k l m {a} {b} s =
    count_same (runs (users busy types) a k l) (runs (users busy types) b k l) m (λ j h. rw (s.upto j h))

edge_local : {delays from to : List ℕ} {i e : ℕ} {a b : List ℕ} → Same (i + 1) a b → EdgeKept delays from to a i e → EdgeKept delays from to b i e
edge_local {from = from} {to = to} {e = e} s k = record {
  kept = λ x. omega (arith, k.kept x, s.upto (at from e) (omega arith), s.upto (at to e) (omega arith));
}

room_local : {busy types units : List ℕ} {i : ℕ} {a b : List ℕ} → Same (i + 1) a b → UnitsEnough busy types units a i → UnitsEnough busy types units b i
room_local {busy} {types} {i = i} s r = record {
  enough = λ l x y.
      let e = s.upto i (omega arith) in
      omega (arith, in_use_local busy types (at types i) l (i + 1) s, r.enough l (omega arith) (omega arith));
}

-- so rows that agree up to i fit there together
pub fits_local : {g : Graph} {units : List ℕ} {i : ℕ} {a b : List ℕ} → Same (i + 1) a b → Fits g units a i → Fits g units b i
fits_local s f = record { edges = λ e h. edge_local s (f.edges e h); room = room_local s f.room }

module _ {j : Job} {i : ℕ} where
  pub placed_local : {a b : List ℕ} → Same i a b → Placed j i a → Placed j i b
  placed_local s p = record {
    low = λ k h. omega (arith, p.low k h, s.upto k h);
    high = λ k h. omega (arith, p.high k h, s.upto k h);
    fits = λ k h. fits_local (same_down (omega arith) s) (p.fits k h);
  }

  placed_more : {s : List ℕ} → Placed j i s → at j.early i ≤ at s i → at s i ≤ at j.late i → Fits j.graph j.units s i → Placed j (i + 1) s
  placed_more {s} p low high fits = record {
    low = below_more (λ (k : ℕ). at j.early k ≤ at s k) i p.low low;
    high = below_more (λ (k : ℕ). at s k ≤ at j.late k) i p.high high;
    fits = below_more (λ (k : ℕ). Fits j.graph j.units s k) i p.fits fits;
  }

-- ---- all are placed
-- a row that is as the row asked after does not come after it; any other that is complete is the one row that completes it
pub done : {j : Job} {i : ℕ} {s : List ℕ} (after : lent.Option (Bor (List ℕ))) {r : Bool} → is_some after ≡ not r → i ≡ many j.graph → Ready j s i (asked_of after)
    → Searched j s i (asked_of after) s r
done {j} {i} {s} (Some row) {r = true} e all h = absurd (clash refl e)
done {j} {i} {s} (Some row) {r = false} e all h = record {
  kept = same_refl i s;
  yes = λ x. absurd (clash x refl);
  least = λ x. absurd (clash x refl);
  none = λ x q c.
      same_not_before (same_down (omega arith) (same_trans (h.same row.now refl) (same_sym c.same))) (c.later row.now refl);
}
done {j} {i} {s} None {r = true} e all h = record {
  kept = same_refl i s;
  yes = λ x. record {
    placed = subst (λ (m : ℕ). Placed j m s) all h.placed;
    same = same_refl i s;
    later = λ row y. absurd (none_some y);
  };
  least = λ x q c b. same_not_before (same_down (omega arith) c.same) b;
  none = λ x. absurd (clash refl x);
}
done {j} {i} {s} None {r = false} e all h = absurd (clash refl (sym e))

-- ---- the starts of operation i, one after another
-- s₀ is the row as it came and s the row now: what completes s₀ starts i at t or later
pub record Loop (j : Job) (s₀ : List ℕ) (i : ℕ) (asked : Option (List ℕ)) (s : List ℕ) (t : ℕ) : Type 0 where
  pub inside : i < many j.graph
  pub ready : Ready j s₀ i asked
  pub low : at j.early i ≤ t
  pub above : (row : List ℕ) → asked ≡ some row → at row i ≤ t
  pub kept : Same i s s₀
  pub passed : (q : List ℕ) → Completes j s₀ i asked q → t ≤ at q i

module _ {j : Job} {s₀ : List ℕ} {i : ℕ} {asked : Option (List ℕ)} where
  -- before the first start to try, none was passed
  pub loop_begins : {first : ℕ} → i < many j.graph → Ready j s₀ i asked → Begins asked i (at j.early i) first → Loop j s₀ i asked s₀ first
  loop_begins inside ready begins = record {
    inside = inside;
    ready = ready;
    low = begins.low;
    above = begins.above;
    kept = same_refl i s₀;
    passed = λ q c.
        begins.least (at q i) (c.placed.low i inside)
        (λ row e. before_at (same_trans (ready.same row e) (same_sym c.same)) (c.later row e));
  }

  -- all starts in the window were passed
  pub loop_out : {s : List ℕ} {t : ℕ} → at j.late i < t → Loop j s₀ i asked s t → Searched j s₀ i asked s false
  loop_out l w = record {
    kept = w.kept;
    yes = λ x. absurd (clash x refl);
    least = λ x. absurd (clash x refl);
    none = λ x q c. omega (arith, w.passed q c, c.placed.high i w.inside);
  }

  module _ {s : List ℕ} {t : ℕ} (w : Loop j s₀ i asked s t) (room : i < length s) (fit : t ≤ at j.late i) where
    -- the row with i at t
    abbrev put : List ℕ
    put = set s i t

    -- i is put at t
    put_kept : Same i put s₀
    put_kept = same_trans (same_set s i t) w.kept

    put_at : at put i ≡ t
    put_at = get_or-set_same s i t 0 room

    -- what completes s₀ and starts i at t is as that row, up to i
    as_put : {q : List ℕ} → Completes j s₀ i asked q → at q i ≡ t → Same (i + 1) q put
    as_put c e = same_more (same_trans c.same (same_sym put_kept)) (e ∙ sym put_at)

    -- i does not fit there
    pub turn_unfit : (Fits j.graph j.units put i → ⊥) → Loop j s₀ i asked put (t + 1)
    turn_unfit unfit = record {
      kept = put_kept;
      inside = w.inside;
      ready = w.ready;
      low = omega (arith, w.low);
      above = λ row e. omega (arith, w.above row e);
      passed = λ q c.
          ⊎_elim
          (λ h. omega arith)
          (λ h. absurd (unfit (fits_local (as_put c (omega (arith, w.passed q c))) (c.placed.fits i w.inside))))
          (lt_or_le t (at q i));
    }

    module _ {deeper : Option (List ℕ)} (stays : StaysEqual asked i t deeper) (fits : Fits j.graph j.units put i) where
      -- it fits: the row is ready for the next operation
      pub turn_ready : Ready j put (i + 1) deeper
      turn_ready = record {
        inside = omega (arith, w.inside);
        placed = placed_more (placed_local (same_sym put_kept) w.ready.placed) (omega (arith, w.low, put_at)) (omega (arith, put_at)) fits;
        reaches = record { long = λ row e. w.ready.reaches.long row (stays.was row e) };
        same = λ row e.
            same_more (same_trans (w.ready.same row (stays.was row e)) (same_sym put_kept)) (stays.same row e ∙ sym put_at);
      }

      -- what completes it completes s₀, and the other way round: with t at i, it comes after the row asked after exactly where it does so further on
      onto : {q : List ℕ} → Completes j s₀ i asked q → at q i ≡ t → Completes j put (i + 1) deeper q
      onto c e =
          record { placed = c.placed; same = as_put c e; later = λ row y. c.later row (stays.was row y) }

      back : {q : List ℕ} → Completes j put (i + 1) deeper q → Completes j s₀ i asked q
      back {q} c = record { placed = c.placed; same = low; later = later }
        where
          low : Same i q s₀
          low = same_trans (same_down (omega arith) c.same) put_kept

          later : (row : List ℕ) → asked ≡ some row → Before (many j.graph) row q
          later row y =
              ⊎_elim
              (λ e. c.later row (stays.apart row y e))
              (λ n.
              before_here w.inside (same_trans (w.ready.same row y) (same_sym low))
              (omega (arith, w.above row y, put_at, c.same.upto i (omega arith))))
              (same_or_not (at row i) t)

      module _ {s' : List ℕ} {found : Bool} (f : Searched j put (i + 1) deeper s' found) where
        low : Same i s' s₀
        low = same_trans (same_down (omega arith) f.kept) put_kept

        -- found with t at i: it is the least, since a row with a smaller start at i was passed and one with a greater comes later
        pub turn_found : found ≡ true → Searched j s₀ i asked s' true
        turn_found on = record {
          kept = low;
          yes = λ x. back (f.yes on);
          least = λ x q c b.
              let start = f.kept.upto i (omega arith) in
              let at_i = before_at (same_trans c.same (same_sym low)) b in
              f.least on q (onto c (omega (arith, w.passed q c, put_at))) b;
          none = λ x. absurd (clash refl x);
        }

        -- nothing with t at i: the next start is tried
        pub turn_more : found ≡ false → Loop j s₀ i asked s' (t + 1)
        turn_more off = record {
          inside = w.inside;
          ready = w.ready;
          low = omega (arith, w.low);
          above = λ row e. omega (arith, w.above row e);
          kept = low;
          passed = λ q c.
              ⊎_elim
              (λ h. omega arith)
              (λ h. absurd (f.none off q (onto c (omega (arith, w.passed q c)))))
              (lt_or_le t (at q i));
        }
