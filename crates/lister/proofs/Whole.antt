-- Rows in which every operation stands in its window, where it may, are the lawful schedules: so the search's answer is the question's.
use mathlib.Core.Path.{◌≡◌, refl, sym, subst}
use mathlib.Core.Bool.{Bool, true, false}
use mathlib.Core.Logic.{⊎_elim}
use mathlib.Core.List.{List}
use Prim.Native.Nat.{ℕ, zero, suc, ◌+◌, ◌≤◌}
use native.Mathlib.Nat.{eq-or-lt_of_le, le_of_suc-le-suc}
use native.Mathlib.Numerals.{add-one}
use native.Mathlib.Omega.{arith}
use lib.ListN.{length, take}
use Rattle.std.proofs.Math.Option.{Option, none, some}
use Rattle.maths.specs.Cases.{none_some, some_one}
use Rattle.maths.specs.Tests.{two}
use Rattle.maths.specs.Rows.{at, over, take_at, take_long}
use Rattle.maths.specs.Sum.{sum}
use Rattle.maths.specs.Count.{count, count_no, count_start}
use Rattle.maths.specs.Words.{Same, Before}
use Rattle.maths.specs.WordLaws.{same_none, same_sym, before_same}
use Rattle.model.specs.Graph.{order, many, type_of, Sound}
use Rattle.model.specs.Tables.{Earliest, Latest}
use Rattle.model.specs.Use.{runs, Lawful}
use Rattle.theory.specs.unit_use.RunningAndPeak.{runs_true, running_first}
use Rattle.theory.specs.lister.Windows.{lawful_in_window}
use Rattle.model.specs.Listing.{Later, Least, NoneLeft, Gives}
use Rattle.model.specs.declared.Listed.TheVariants as answers
use Rattle.unit_use.specs.FirstInUse.{in_use_is}
use Rattle.placement.specs.Fit.{higher}
use Rattle.lister.specs.Search.{Job, Placed, Completes, Searched}
use Rattle.lister.specs.Asking.{Sought}
use Rattle.lister.proofs.Turns.{placed_local}

-- fewer are counted among fewer
count_wide : (p : ℕ → Bool) (m n : ℕ) → m ≤ n → count p m ≤ count p n
unfolding sum
count_wide p m zero l = let e : m ≡ 0 = omega arith in subst (λ (k : ℕ). count p k ≤ count p 0) (sym e) (omega arith)
count_wide p m (suc n) l =
    ⊎_elim
    (λ e. subst (λ (k : ℕ). count p m ≤ count p k) e (omega arith))
    (λ h. omega (arith, count_wide p m n (le_of_suc-le-suc h)))
    (eq-or-lt_of_le l)

-- to come after the row asked after, if there is one
later_of : {n : ℕ} (asked : Option (List ℕ)) (t : List ℕ) → ((row : List ℕ) → asked ≡ some row → Before n row t) → Later n asked t
unfolding Later
later_of none t h = tt
later_of (some row) t h = h row refl

later_on : {n : ℕ} (asked : Option (List ℕ)) (t : List ℕ) → Later n asked t → (row : List ℕ) → asked ≡ some row → Before n row t
unfolding Later
later_on none t h row e = absurd (none_some e)
later_on {n} (some own) t h row e = subst (λ (r : List ℕ). Before n r t) (some_one e) h

module _ (j : Job) (sound : Sound j.graph) (bound : ℕ) (early : Earliest (order j.graph) j.early) (late : Latest (order j.graph) bound j.late) where
  -- windows lose nothing
  pub lawful_placed : (t : List ℕ) → Lawful j.graph j.units bound t → Placed j (many j.graph) t
  lawful_placed t h =
      let window = lawful_in_window j.graph j.units bound j.early j.late t early late h in
      record {
        low = window.from;
        high = window.to;
        fits = λ i b. record {
          edges = λ e l. record { kept = λ own. h.keeps.edges e l };
          room = record {
            enough = λ l x y.
                let k = type_of j.graph i in
                omega (
                  arith,
                  in_use_is j.graph t k l (i + 1),
                  count_wide (runs j.graph t k l) (i + 1) (many j.graph) (omega arith),
                  h.room k l (sound.type_in i b),
                );
          };
        };
      }

  -- with room for each operation as it is placed, no type ever has more running than its units
  roomy : (t : List ℕ) → Placed j (many j.graph) t → (k l m : ℕ) → m ≤ many j.graph → running_first j.graph t m k l ≤ at j.units k
  roomy t p k l zero b = omega (arith, count_start (runs j.graph t k l))
  roomy t p k l (suc m) b =
      ⊎_elim running_last
      (λ e. rw add-one at (no_more e (roomy t p k l m (omega arith))))
      (two (runs j.graph t k l m))
    where
      no_more : runs j.graph t k l m ≡ false → running_first j.graph t m k l ≤ at j.units k → running_first j.graph t (m + 1) k l ≤ at j.units k
      no_more e before = omega (arith, count_no (runs j.graph t k l) m e)

      running_last : runs j.graph t k l m ≡ true → running_first j.graph t (suc m) k l ≤ at j.units k
      running_last e =
          let r = runs_true j.graph t k l m e in
          let room = (p.fits m (omega arith)).room.enough l r.started r.unfinished in
          let enough : running_first j.graph t (m + 1) (type_of j.graph m) l ≤ at j.units (type_of j.graph m) =
          omega (arith, room, in_use_is j.graph t (type_of j.graph m) l (m + 1)) in
          rw add-one at (subst (λ (i : ℕ). running_first j.graph t (m + 1) i l ≤ at j.units i) r.kind enough)

  -- such a row is lawful: each edge was looked at when its higher end was placed
  pub placed_lawful : (t : List ℕ) → length t ≡ many j.graph → Placed j (many j.graph) t → Lawful j.graph j.units bound t
  placed_lawful t long p = record {
    long = long;
    keeps = record {
      from_one = λ i b. omega (arith, early.keeps.from_one i b, p.low i b);
      edges = λ e b.
          ((p.fits (higher j.graph.from j.graph.to e) (omega (arith, sound.source_in e b, sound.target_in e b))).edges e b).kept refl;
    };
    within = record { ends = λ i b. omega (arith, late.within.ends i b, p.high i b) };
    room = λ k l b. roomy t p k l (many j.graph) (omega arith);
  }

  -- ---- the search from nothing placed answers the question
  module _ {s s' : List ℕ} {asked : Option (List ℕ)} {found : Bool} (f : Searched j s 0 asked s' found) where
    completes : (u : List ℕ) → Lawful j.graph j.units bound u → Later (many j.graph) asked u → Completes j s 0 asked u
    completes u h l = record { placed = lawful_placed u h; same = same_none u s; later = later_on asked u l }

    search_least : many j.graph ≤ length s' → found ≡ true → Least j.graph j.units bound asked (take (many j.graph) s')
    search_least room on =
        let c = f.yes on in
        let starts = take (many j.graph) s' in
        let same : Same (many j.graph) s' starts = record { upto = λ i b. sym (take_at (many j.graph) s' i b) } in
        record {
          lawful = placed_lawful starts (take_long (many j.graph) s' room) (placed_local same c.placed);
          later = later_of asked starts (λ row e. before_same (c.later row e) same);
          none_between = λ u h l b. f.least on u (completes u h l) (before_same b (same_sym same));
        }

    search_none : found ≡ false → NoneLeft j.graph j.units bound asked
    search_none off = record { none_later = λ u h l. f.none off u (completes u h l) }

module _ {j : Job} (sound : Sound j.graph) {s s' before : List ℕ} {asked : Option (List ℕ)} {found : Bool} (f : Searched j s 0 asked s' found) where
  -- what the search found is the least schedule
  pub sought_found : {after : List ℕ} → found ≡ true → many j.graph ≤ length s' → after ≡ over (take (many j.graph) s') before
      → Sought j asked before answers.Found after
  unfolding Gives
  sought_found on room written = record {
    gives = λ bound early late.
        record { row = take (many j.graph) s'; is = search_least j sound bound early late f room on; written = written };
  }

  -- what it did not find does not exist
  pub sought_none : found ≡ false → Sought j asked before answers.NoneLeft before
  unfolding Gives
  sought_none off = record { gives = λ bound early late. record { none = search_none j sound bound early late f off; kept = refl } }
